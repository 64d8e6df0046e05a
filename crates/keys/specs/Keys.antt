-- Octet keys (RFC 7517 section 4, RFC 7518 section 6.4), what they allow and which algorithms they fit.
use Rattle.std.specs.Prelude.{ℕ, ◌&&◌, Bool, true, List, length, codes, nat_le, Option, Some, None, Result, Ok}
use Rattle.std.specs.List.{AllByRecursion, list_any}
use Rattle.std.specs.Str.{bytes_eq}
use Rattle.serde_json.specs.Data.{Data}
use Rattle.octets.specs.declared.refusal.Refusal.{Refusal}
use Rattle.octets.specs.declared.refusal.Refusal.TheVariants.{Key}
use Rattle.octets.specs.Outcomes.{◌>>=◌, needs, as_refusal}
use Rattle.octets.specs.Base64url.{decoded}
use Rattle.octets.specs.Octets.{IsOctets}
use Rattle.keys.specs.declared.algorithm.Algorithm.{Algorithm}
use Rattle.keys.specs.declared.operation.Operation.{Operation}
use Rattle.keys.specs.Limits.{Limits}
use Rattle.keys.specs.Members.{string_member, optional_string_member, optional_strings_member}
use Rattle.keys.specs.Texts.{is_among}
use Rattle.keys.specs.Algorithms.{key_names, key_len, has_len}
use Rattle.keys.specs.Operations.{operation_names, operation_use}

-- what is kept of a key: its octets, and its `alg`, `use` and `key_ops` if they are there (RFC 7517 sections 4.2 to 4.4)
pub record OctetKey : Type 0 where
  pub octets : List ℕ
  pub alg : Option (List ℕ)
  pub key_use : Option (List ℕ)
  pub key_ops : Option (List (List ℕ))

-- each has octets (RFC 7518 section 6.4.1)
abbrev pub AreOctetKeys : List OctetKey → Type 0
AreOctetKeys keys = AllByRecursion (λ key. IsOctets key.octets) keys

-- ---- reading (RFC 7517 section 4.1, RFC 7518 section 6.4.1, docs/SPECIFICATION.md "Keys" 2)

-- the octets of the member `k`
unfoldable pub key_octets : Limits → Data → Result (List ℕ) Refusal
key_octets limits value = do
  text ← string_member (codes "k") value
  octets ← as_refusal Key (decoded text)
  in_range ← needs (nat_le 1 (length octets) && nat_le (length octets) limits.key_octets) Key
  Ok octets

-- The key with these octets. `kid` is read for its type alone.
unfoldable pub constrained_key : List ℕ → Data → Result OctetKey Refusal
constrained_key octets value = do
  alg ← optional_string_member (codes "alg") value
  key_use ← optional_string_member (codes "use") value
  kid ← optional_string_member (codes "kid") value
  key_ops ← optional_strings_member (codes "key_ops") value
  Ok (record { octets = octets; alg = alg; key_use = key_use; key_ops = key_ops })

-- the octet key of an object
unfoldable pub octet_key : Limits → Data → Result OctetKey Refusal
octet_key limits value = do
  kty ← string_member (codes "kty") value
  oct ← needs (bytes_eq kty (codes "oct")) Key
  octets ← key_octets limits value
  constrained_key octets value

-- ---- operations (RFC 7517 sections 4.2 and 4.3, docs/SPECIFICATION.md "Keys" 4)

abbrev pub is_absent_or_text : Option (List ℕ) → List ℕ → Bool
is_absent_or_text None text = true
is_absent_or_text (Some found) text = bytes_eq found text

abbrev pub is_absent_or_among : Option (List ℕ) → List (List ℕ) → Bool
is_absent_or_among None names = true
is_absent_or_among (Some found) names = is_among names found

-- there is no list, or some name of it is among these
abbrev pub is_absent_or_meets : Option (List (List ℕ)) → List (List ℕ) → Bool
is_absent_or_meets None names = true
is_absent_or_meets (Some found) names = list_any (is_among names) found

-- `use` and `key_ops` allow the operation
unfoldable pub allows : OctetKey → Operation → Bool
allows key operation = is_absent_or_text key.key_use (operation_use operation) && is_absent_or_meets key.key_ops (operation_names operation)

-- ---- algorithms (RFC 7517 section 4.4, docs/SPECIFICATION.md "Keys" 5)

-- the key has a length that the algorithm allows, and its `alg` names no other algorithm
unfoldable pub fits : OctetKey → Algorithm → Bool
fits key algorithm = is_absent_or_among key.alg (key_names algorithm) && has_len (key_len algorithm) (length key.octets)
