-- Making keys from the members of a template and random octets (this profile's own rules).
use Rattle.std.specs.Prelude.{ℕ, ◌&&◌, Bool, true, List, [], ◌∷◌, length, take, codes, nat_le, is_some, is_none, if◌then◌else◌, Option, Some, None, option_and_then, Result, Ok}
use Rattle.std.specs.Ordering.{nat_cmp, match_ordering}
use Rattle.std.specs.Option.{ok_or}
use Rattle.std.specs.Cmp.Lexicographic.{slice_cmp}
use Rattle.serde_json.specs.Data.{Data, Items, no_items, item, Members, no_members, member, string, array, object, put, depth}
use Rattle.serde_json.specs.Find.{get_member, as_object, as_number, as_u64}
use Rattle.serde_json.specs.Written.{compact_text}
use Rattle.octets.specs.declared.refusal.Refusal.{Refusal}
use Rattle.octets.specs.declared.refusal.Refusal.TheVariants.{Key, NoAlgorithm, KeyDoesNotFit, Limit, Random}
use Rattle.octets.specs.Outcomes.{◌>>=◌, needs, if_there}
use Rattle.octets.specs.Base64url.{base64url}
use Rattle.keys.specs.Json.{json_value}
use Rattle.keys.specs.Keys.{is_absent_or_text}
use Rattle.keys.specs.Members.{optional_string_member, optional_strings_member}
use Rattle.keys.specs.declared.algorithm.NamedAlg.{NamedAlg}
use Rattle.keys.specs.Algorithms.{named_alg_of, supported, named_key_len, has_len, usual_len, operations}
use Rattle.keys.specs.Limits.{Limits}
use Rattle.keys.specs.Operations.{operation_name}

-- ---- the template (docs/SPECIFICATION.md "Making keys")

-- the members are not those of a key or a set
abbrev pub is_fresh : Members → Bool
is_fresh members = is_none (get_member (codes "k") members) && is_none (get_member (codes "keys") members)

-- `bytes`: a whole number from 1
abbrev pub len_of : Data → Result ℕ Refusal
len_of value = do
  n ← ok_or (option_and_then as_u64 (as_number value)) Key
  some ← needs (nat_le 1 n) Key
  Ok n

-- the algorithm and the length that a template asks for; its members are typed as those of a key
pub record KeyTemplate : Type 0 where
  pub alg : Option (List ℕ)
  pub bytes : Option ℕ

-- what a template says of the key; `use`, `kid` and `key_ops` are read for their types alone
unfoldable pub key_template : Data → Members → Result KeyTemplate Refusal
key_template value members = do
  fresh ← needs (is_fresh members) Key
  kty ← optional_string_member (codes "kty") value
  oct ← needs (is_absent_or_text kty (codes "oct")) Key
  alg ← optional_string_member (codes "alg") value
  key_use ← optional_string_member (codes "use") value
  kid ← optional_string_member (codes "kid") value
  key_ops ← optional_strings_member (codes "key_ops") value
  bytes ← if_there len_of (get_member (codes "bytes") members)
  Ok (record { alg = alg; bytes = bytes })

-- ---- the length of the key (docs/SPECIFICATION.md "Making keys" 1 to 3)

abbrev pub is_within_limit : Limits → Option ℕ → Bool
is_within_limit limits None = true
is_within_limit limits (Some n) = nat_le n limits.key_octets

-- the length that the template asks for, or the usual one of the algorithm
abbrev pub asked_len : Option ℕ → Option NamedAlg → Option ℕ
asked_len (Some n) alg = Some n
asked_len None alg = option_and_then (λ a. usual_len (named_key_len a)) alg

abbrev pub takes_len : Option NamedAlg → ℕ → Bool
takes_len None n = true
takes_len (Some alg) n = has_len (named_key_len alg) n

-- the length of the key
unfoldable pub fitting_len : Option NamedAlg → Option ℕ → Result ℕ Refusal
fitting_len alg bytes = do
  n ← ok_or (asked_len bytes alg) NoAlgorithm
  taken ← needs (takes_len alg n) KeyDoesNotFit
  Ok n

-- ---- its members except `k` (docs/SPECIFICATION.md "Making keys")

-- the members without the one of this name
abbrev pub without : List ℕ → Members → Members
without name no_members = no_members
without name (member other value rest) = match_ordering (slice_cmp nat_cmp name other) (member other value (without name rest)) rest
    (member other value (without name rest))

abbrev pub string_items : List (List ℕ) → Items
string_items [] = no_items
string_items (text ∷ texts) = item (string text) (string_items texts)

-- the names of its operations
abbrev pub key_ops_of : NamedAlg → List (List ℕ)
key_ops_of alg = operation_name (operations alg).0 ∷ operation_name (operations alg).1 ∷ []

-- with the operations of the algorithm, if the template has neither `key_ops` nor `use`
abbrev pub with_operations : Option NamedAlg → Members → Members
with_operations None members = members
with_operations (Some alg) members =
    if is_some (get_member (codes "key_ops") members) then members
    else (if is_some (get_member (codes "use") members) then members
    else put (codes "key_ops") (array (string_items (key_ops_of alg))) members)

abbrev pub completed : Option NamedAlg → Members → Members
completed alg members = put (codes "kty") (string (codes "oct")) (with_operations alg (without (codes "bytes") members))

-- ---- the key (docs/SPECIFICATION.md "Making keys")

-- its length, and its members except `k`
pub record MadeKey : Type 0 where
  pub len : ℕ
  pub members : Members

-- the key that the members of a template ask for
unfoldable pub made_of : Limits → Data → Members → Result MadeKey Refusal
made_of limits value members = do
  template ← key_template value members
  few ← needs (is_within_limit limits template.bytes) Limit
  alg ← if_there (supported named_alg_of) template.alg
  len ← fitting_len alg template.bytes
  shallow ← needs (nat_le (depth (object (completed alg members))) limits.depth) Limit
  Ok (record { len = len; members = completed alg members })

-- the key that the text of a template asks for
unfoldable pub made_key : Limits → List ℕ → Result MadeKey Refusal
made_key limits text = do
  value ← json_value text
  members ← ok_or (as_object value) Key
  made_of limits value members

-- the JSON text of the key with these octets (RFC 7518 section 6.4.1)
abbrev pub key_text : MadeKey → List ℕ → List ℕ
key_text made octets = compact_text (object (put (codes "k") (string (base64url octets)) made.members))

-- the key's text, with the first octets of a random input
unfoldable pub gen_answer : Limits → List ℕ → List ℕ → Result (List ℕ) Refusal
gen_answer limits template random = do
  made ← made_key limits template
  enough ← needs (nat_le made.len (length random)) Random
  Ok (key_text made (take made.len random))
