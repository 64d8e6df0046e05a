-- The algorithms of signatures (RFC 7518 section 3.1), and what every algorithm asks of a key: its name, its length, and the operations that
-- it serves.
use Rattle.std.specs.Prelude.{ℕ, ◌==◌, Bool, true, List, [], ◌∷◌, codes, nat_le, Option, Some, None, option_map, Result}
use Rattle.std.specs.List.{find}
use Rattle.std.specs.Option.{option_or, ok_or}
use Rattle.std.specs.Str.{bytes_eq}
use Rattle.octets.specs.declared.refusal.Refusal.{Refusal}
use Rattle.octets.specs.declared.refusal.Refusal.TheVariants.{Unsupported}
use Rattle.keys.specs.declared.algorithm.SignatureAlg.{SignatureAlg}
use Rattle.keys.specs.declared.algorithm.SignatureAlg.TheVariants.{Hs256, Hs384, Hs512}
use Rattle.ciphers.specs.declared.key_alg.KeyAlg.{KeyAlg}
use Rattle.ciphers.specs.declared.key_alg.KeyManagementMode.{KeyManagementMode}
use Rattle.ciphers.specs.declared.key_alg.KeyManagementMode.TheVariants.{Direct, KeyWrap, Password, GcmKeyWrap}
use Rattle.ciphers.specs.declared.content_alg.ContentAlg.{ContentAlg}
use Rattle.ciphers.specs.Algorithms.{management_name, management_alg_of, encryption_name, encryption_alg_of, mode_of, kek_len}
use Rattle.ciphers.specs.Sealing.{cek_len}
use Rattle.keys.specs.declared.algorithm.Algorithm.{Algorithm}
use Rattle.keys.specs.declared.algorithm.Algorithm.TheVariants.{Signature, Encryption}
use Rattle.keys.specs.declared.algorithm.NamedAlg.{NamedAlg}
use Rattle.keys.specs.declared.algorithm.NamedAlg.TheVariants as named
use Rattle.keys.specs.declared.algorithm.KeyLen.{KeyLen}
use Rattle.keys.specs.declared.algorithm.KeyLen.TheVariants.{AtLeast, Exactly, Any}
use Rattle.prf.specs.HashFunction.{HashFunction}
use Rattle.prf.specs.Sha2.{sha256_function, sha384_function, sha512_function}
use Rattle.keys.specs.declared.operation.Operation.{Operation}
use Rattle.keys.specs.declared.operation.Operation.TheVariants.{Sign, Verify, Encrypt, Decrypt, WrapKey, UnwrapKey, WrapByPassword, UnwrapByPassword}

-- ---- signatures (RFC 7518 section 3.1)

-- the value of `alg` in a JWS (section 3.1), and the hash of the HMAC (section 3.2)
pub record SignatureRow : Type 0 where
  pub name : List ℕ
  pub hash : HashFunction

abbrev pub signature_row : SignatureAlg → SignatureRow
signature_row Hs256 = record { name = codes "HS256"; hash = sha256_function }
signature_row Hs384 = record { name = codes "HS384"; hash = sha384_function }
signature_row Hs512 = record { name = codes "HS512"; hash = sha512_function }

abbrev pub signature_algs : List SignatureAlg
signature_algs = Hs256 ∷ Hs384 ∷ Hs512 ∷ []

abbrev pub signature_name : SignatureAlg → List ℕ
signature_name alg = (signature_row alg).name

abbrev pub signature_hash : SignatureAlg → HashFunction
signature_hash alg = (signature_row alg).hash

-- the octets of the hash: the length of a signature, and the least length of a key (section 3.2)
abbrev pub hash_len : SignatureAlg → ℕ
hash_len alg = (signature_hash alg).output_len

-- the one with the longest hash that a key of n octets is long enough for
abbrev pub longest_alg_for : ℕ → Option SignatureAlg
longest_alg_for n = find (λ alg. nat_le (hash_len alg) n) (Hs512 ∷ Hs384 ∷ Hs256 ∷ [])

-- the algorithm of a name
unfoldable pub signature_alg_of : List ℕ → Option SignatureAlg
signature_alg_of name = find (λ alg. bytes_eq name (signature_name alg)) signature_algs

-- the algorithm that the `alg` of a key names: of signatures, of key management, or of content encryption (RFC 7517 section 4.4)
unfoldable pub named_alg_of : List ℕ → Option NamedAlg
named_alg_of name =
    option_or (option_map named.Signature (signature_alg_of name)) (
    option_or (option_map named.Management (management_alg_of name)) (
    option_map named.Encryption (encryption_alg_of name)))

-- the algorithm of a name, which must have one
abbrev pub supported : {A : Type 0} → (List ℕ → Option A) → List ℕ → Result A Refusal
supported of name = ok_or (of name) Unsupported

-- ---- lengths of keys, in octets (docs/SPECIFICATION.md "Keys" 5)

abbrev pub has_len : KeyLen → ℕ → Bool
has_len (AtLeast n) len = nat_le n len
has_len (Exactly n) len = len == n
has_len Any len = true

-- the length of a key if the template does not ask for one (docs/SPECIFICATION.md "Making keys")
abbrev pub usual_len : KeyLen → Option ℕ
usual_len (AtLeast n) = Some n
usual_len (Exactly n) = Some n
usual_len Any = None

-- the key of the wrap (sections 4.4 and 4.7), or a password (section 4.8); that of direct encryption is as long as `enc` says
abbrev pub len_in : KeyManagementMode → ℕ → KeyLen
len_in Direct n = Any
len_in KeyWrap n = Exactly n
len_in Password n = Any
len_in GcmKeyWrap n = Exactly n

abbrev pub management_key_len : KeyAlg → KeyLen
management_key_len alg = len_in (mode_of alg) (kek_len alg)

-- with `enc`, the key of direct encryption is the content encryption key (section 4.5)
abbrev pub len_with : KeyManagementMode → ℕ → ContentAlg → KeyLen
len_with Direct n enc = Exactly (cek_len enc)
len_with mode n enc = len_in mode n

abbrev pub key_len : Algorithm → KeyLen
key_len (Signature alg) = AtLeast (hash_len alg)
key_len (Encryption alg enc) = len_with (mode_of alg) (kek_len alg) enc

-- The key of an algorithm that the key names (RFC 7517 section 4.4). A `NamedAlg` is what the `alg` of a key can name, and an `Algorithm`
-- what is done with a key.
abbrev pub named_key_len : NamedAlg → KeyLen
named_key_len (named.Signature alg) = AtLeast (hash_len alg)
named_key_len (named.Management alg) = management_key_len alg
named_key_len (named.Encryption enc) = Exactly (cek_len enc)

-- ---- the names that the `alg` of a key may have (RFC 7517 section 4.4, docs/SPECIFICATION.md "Keys" 5)

abbrev pub names_with : KeyManagementMode → List ℕ → List ℕ → List (List ℕ)
names_with Direct name enc = name ∷ enc ∷ []
names_with mode name enc = name ∷ []

abbrev pub key_names : Algorithm → List (List ℕ)
key_names (Signature alg) = signature_name alg ∷ []
key_names (Encryption alg enc) = names_with (mode_of alg) (management_name alg) (encryption_name enc)

-- ---- operations: of a sender, and of a recipient (RFC 7517 section 4.3, docs/SPECIFICATION.md "Keys" 4)

abbrev pub operations_in : KeyManagementMode → Operation × Operation
operations_in Direct = (Encrypt, Decrypt)
operations_in KeyWrap = (WrapKey, UnwrapKey)
operations_in Password = (WrapByPassword, UnwrapByPassword)
operations_in GcmKeyWrap = (WrapKey, UnwrapKey)

abbrev pub management_operations : KeyAlg → Operation × Operation
management_operations alg = operations_in (mode_of alg)

abbrev pub operations : NamedAlg → Operation × Operation
operations (named.Signature alg) = (Sign, Verify)
operations (named.Management alg) = management_operations alg
operations (named.Encryption enc) = (Encrypt, Decrypt)
