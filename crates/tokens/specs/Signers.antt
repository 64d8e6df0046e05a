-- Keys of which each stands for a signer of its own (RFC 2104 section 2).
use Rattle.std.specs.Prelude.{◌≡◌, ℕ, ◌&&◌, Bool, true, not, nat_eq, List, [], ◌∷◌, length, map}
use Rattle.std.specs.List.{list_all, list_any}
use Rattle.std.specs.Str.{bytes_eq}
use Rattle.prf.specs.HashFunction.{HashFunction}
use Rattle.prf.specs.Hmac.{key_block}
use Rattle.keys.specs.declared.algorithm.SignatureAlg.{SignatureAlg}
use Rattle.keys.specs.Algorithms.{signature_algs, signature_hash}
use Rattle.keys.specs.Keys.{OctetKey}
use Rattle.tokens.specs.Signatures.{signature_of}

-- no two of the lists are the same (docs/SPECIFICATION.md "Calls for C" 7)
abbrev pub are_distinct : List (List ℕ) → Bool
are_distinct [] = true
are_distinct (block ∷ blocks) = not (list_any (bytes_eq block) blocks) && are_distinct blocks

-- HMAC fills a key with zero octets up to a block, and hashes one that is longer than a block. So keys that differ may have the same block,
-- and then they make the same signatures (RFC 2104 section 2).
abbrev pub key_blocks : HashFunction → List OctetKey → List (List ℕ)
key_blocks f keys = map (λ key. key_block f key.octets) keys

-- no two of the keys sign alike by any algorithm (docs/SPECIFICATION.md "Calls for C" 7)
unfoldable pub sign_apart : List OctetKey → Bool
sign_apart keys = list_all (λ alg. are_distinct (key_blocks (signature_hash alg) keys)) signature_algs

-- there are so many keys, and no two of them sign alike (docs/SPECIFICATION.md "Calls for C" 7)
unfoldable pub are_signers : ℕ → List OctetKey → Bool
are_signers count keys = nat_eq (length keys) count && sign_apart keys

-- Keys that have the same block make the same signatures (RFC 2104 section 2).
abbrev pub AlikeKeysSignAlike : Type 0
AlikeKeysSignAlike = (alg : SignatureAlg) (a b protected payload : List ℕ) → key_block (signature_hash alg) a ≡ key_block (signature_hash alg) b
    → signature_of alg a protected payload ≡ signature_of alg b protected payload
