-- JOSE headers (RFC 7515 section 4, RFC 7516 section 4): their members, and the parameters that this profile reads.
use Rattle.std.specs.Prelude.{◌≡◌, ℕ, ◌||◌, Bool, true, false, not, List, length, codes, nat_le, is_some, is_none, if◌then◌else◌, Option, Some, None, option_and_then, Result, Ok, Err}
use Rattle.std.specs.Option.{ok_or}
use Rattle.serde_json.specs.Data.{Data, Members, no_members, member, put}
use Rattle.serde_json.specs.Find.{get, get_member, as_str, as_number, as_u64, as_object}
use Rattle.octets.specs.declared.refusal.Refusal.{Refusal}
use Rattle.octets.specs.declared.refusal.Refusal.TheVariants.{Form, Header}
use Rattle.octets.specs.Outcomes.{◌>>=◌, needs, as_refusal, if_there}
use Rattle.octets.specs.Base64url.{decoded}
use Rattle.keys.specs.Json.{json_value}

-- ---- a header in a JSON value (RFC 7515 section 7.2.1, RFC 7516 section 7.2.1)

abbrev pub members_if_there : Option Data → Result Members Refusal
members_if_there None = Ok no_members
members_if_there (Some value) = ok_or (as_object value) Form

-- the members of a header, which is an object, or absent and then without members
unfoldable pub header_at : List ℕ → Data → Result Members Refusal
header_at name value = members_if_there (get name value)

-- ---- the protected header (RFC 7515 section 5.2, step 3, and RFC 7516 section 5.2, step 3)

-- the members of a JSON object, read from its text
unfoldable pub members_of_json : List ℕ → Result Members Refusal
members_of_json octets = do
  value ← json_value octets
  ok_or (as_object value) Header

-- the members of a protected header; one of no octets has no members
unfoldable pub protected_members : List ℕ → Result Members Refusal
protected_members octets = if nat_le (length octets) 0 then Ok no_members else members_of_json octets

-- ---- the joint header (RFC 7515 section 5.2, step 4, and RFC 7516 section 5.2, step 4)

-- some name is in both
abbrev pub overlap : Members → Members → Bool
overlap no_members other = false
overlap (member name value rest) other = is_some (get_member name other) || overlap rest other

-- the members of both; if both have a name, the member of the first counts
abbrev pub union : Members → Members → Members
union no_members other = other
union (member name value rest) other = put name value (union rest other)

-- the three parts have no name in common: protected, shared by all recipients, and of one recipient or signature
abbrev pub are_disjoint : Members → Members → Members → Bool
are_disjoint protected unprotected per_recipient = not (overlap protected unprotected || (overlap protected per_recipient || overlap unprotected per_recipient))

abbrev pub all_members : Members → Members → Members → Members
all_members protected unprotected per_recipient = union protected (union unprotected per_recipient)

-- The JOSE Header of a recipient or a signature is the union of the protected header, the shared unprotected header, which only encrypted
-- objects have, and the unprotected header of this recipient (RFC 7516 section 3) or signature (RFC 7515 section 3). No name is in two of
-- them (section 4 of both).
unfoldable pub joint_header : Members → Members → Members → Result Members Refusal
joint_header protected unprotected per_recipient = do
  apart ← needs (are_disjoint protected unprotected per_recipient) Header
  Ok (all_members protected unprotected per_recipient)

-- If no name is in two parts, the joint header has the members of each part and no others.
pub record HasAllMembers (protected unprotected per_recipient : Members) : Type 0 where
  pub of_protected : (name : List ℕ) (value : Data) → get_member name protected ≡ Some value
      → get_member name (all_members protected unprotected per_recipient) ≡ Some value
  pub of_unprotected : (name : List ℕ) (value : Data) → get_member name unprotected ≡ Some value
      → get_member name (all_members protected unprotected per_recipient) ≡ Some value
  pub of_per_recipient : (name : List ℕ) (value : Data) → get_member name per_recipient ≡ Some value
      → get_member name (all_members protected unprotected per_recipient) ≡ Some value
  pub no_others : (name : List ℕ) → get_member name protected ≡ None → get_member name unprotected ≡ None → get_member name per_recipient ≡ None
      → get_member name (all_members protected unprotected per_recipient) ≡ None

abbrev pub JointHeaderHasAllMembers : Type 0
JointHeaderHasAllMembers = (protected unprotected per_recipient : Members) → are_disjoint protected unprotected per_recipient ≡ true
    → HasAllMembers protected unprotected per_recipient

-- ---- parameters (docs/SPECIFICATION.md "Objects" 3)

-- a parameter that is there must be read
abbrev pub parameter_if_there : {X : Type 0} → (Data → Option X) → Option Data → Result (Option X) Refusal
parameter_if_there read = if_there (λ value. ok_or (read value) Header)

-- `alg` and `enc` (RFC 7516 sections 4.1.1 and 4.1.2): strings
unfoldable pub string_parameter : List ℕ → Members → Result (Option (List ℕ)) Refusal
string_parameter name header = parameter_if_there as_str (get_member name header)

-- a string that must be there
unfoldable pub string_there : List ℕ → Members → Result (List ℕ) Refusal
string_there name header = do
  found ← string_parameter name header
  ok_or found Header

-- `p2c` (RFC 7518 section 4.8.1.2): a whole number
unfoldable pub number_parameter : List ℕ → Members → Result (Option ℕ) Refusal
number_parameter name header = parameter_if_there (λ value. option_and_then as_u64 (as_number value)) (get_member name header)

-- `p2s` (RFC 7518 section 4.8.1.1): the base64url text of at least 8 octets
abbrev pub salt_octets : List ℕ → Result (List ℕ) Refusal
salt_octets text = do
  octets ← as_refusal Header (decoded text)
  long ← needs (nat_le 8 (length octets)) Header
  Ok octets

unfoldable pub salt_parameter : List ℕ → Members → Result (Option (List ℕ)) Refusal
salt_parameter name header = do
  text ← string_parameter name header
  if_there salt_octets text

-- `iv` and `tag` (RFC 7518 sections 4.7.1.1 and 4.7.1.2): base64url texts
abbrev pub parameter_octets : List ℕ → Result (List ℕ) Refusal
parameter_octets text = as_refusal Header (decoded text)

unfoldable pub octets_parameter : List ℕ → Members → Result (Option (List ℕ)) Refusal
octets_parameter name header = do
  text ← string_parameter name header
  if_there parameter_octets text

-- ---- members that are refused

-- no `crit` (RFC 7515 section 4.1.11): no extension is known
abbrev pub has_no_crit : Members → Bool
has_no_crit header = is_none (get_member (codes "crit") header)
