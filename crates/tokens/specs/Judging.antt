-- What a key may do by some algorithm, whatever it is used for later (RFC 7517 sections 4.2 to 4.4).
use Rattle.std.specs.Prelude.{◌≡◌, ℕ, ◌&&◌, Bool, true, List, Ok}
use Rattle.std.specs.List.{list_any}
use Rattle.ciphers.specs.Algorithms.{management_algs, encryption_algs}
use Rattle.keys.specs.declared.algorithm.Algorithm.TheVariants.{Signature as SignedWith}
use Rattle.keys.specs.declared.operation.Operation.TheVariants.{Sign}
use Rattle.keys.specs.Algorithms.{signature_algs}
use Rattle.keys.specs.Keys.{OctetKey, allows, fits}
use Rattle.keys.specs.Limits.{limits}
use Rattle.objects.specs.Jwe.{EncryptedObject}
use Rattle.objects.specs.Jws.{SignedObject}
use Rattle.tokens.specs.Choosing as choosing
use Rattle.tokens.specs.Decrypting as decrypting
use Rattle.tokens.specs.Verifying as verifying

-- ---- uses (docs/SPECIFICATION.md "Calls for C" 8)

pub record KeyUses : Type 0 where
  pub sign : Bool
  pub verify : Bool
  pub encrypt : Bool
  pub decrypt : Bool

-- the key may sign by some algorithm, and fits
unfoldable pub may_sign : OctetKey → Bool
may_sign key = list_any (λ alg. allows key Sign && fits key (SignedWith alg)) signature_algs

-- it is a candidate for a signature by some algorithm
unfoldable pub may_verify : OctetKey → Bool
may_verify key = list_any (λ alg. verifying.is_candidate alg key) signature_algs

-- it may encrypt by some algorithms, and fits
unfoldable pub may_encrypt : OctetKey → Bool
may_encrypt key = list_any (λ alg. list_any (λ enc. choosing.may_encrypt enc (record { key = key; management = alg })) encryption_algs) management_algs

-- it is a candidate for a recipient with some algorithms
unfoldable pub may_decrypt : OctetKey → Bool
may_decrypt key =
    list_any (λ alg. list_any (λ enc. decrypting.is_candidate (record { management = alg; encryption = enc }) key) encryption_algs) management_algs

-- what it may do
abbrev pub uses_of : OctetKey → KeyUses
uses_of key = record { sign = may_sign key; verify = may_verify key; encrypt = may_encrypt key; decrypt = may_decrypt key }

-- ---- keys do only what they may (docs/SPECIFICATION.md "Calls for C" 8)

-- If keys verify an object, one of them may verify.
abbrev pub VerifiersMayVerify : Type 0
VerifiersMayVerify = (all : Bool) (keys : List OctetKey) (o : SignedObject) (payload : List ℕ)
    → verifying.verified_payload all keys o ≡ Ok payload → list_any may_verify keys ≡ true

-- If keys decrypt an object, one of them may decrypt.
abbrev pub DecryptersMayDecrypt : Type 0
DecryptersMayDecrypt = (keys : List OctetKey) (o : EncryptedObject) (plaintext : List ℕ)
    → decrypting.decrypted limits keys o ≡ Ok plaintext → list_any may_decrypt keys ≡ true
