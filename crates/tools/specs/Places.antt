-- The places at which jose may refuse an object, each read alone: the members of its texts, and the parameters of its joint headers
-- (docs/SPECIFICATION.md "Tools").
use Rattle.std.specs.Prelude.{ℕ, Bool, false, List, [], ◌∷◌, ◌++◌, codes, is_none, nat_le, if◌then◌else◌, Option, Some, None, option_and_then, Result, Ok, Err}
use Rattle.std.specs.Option.{ok_or, option_or}
use Rattle.std.specs.Result.{result_err}
use Rattle.std.specs.Str.{bytes_eq}
use Rattle.serde_json.specs.Data.{Data, Members, no_members}
use Rattle.serde_json.specs.Find.{get_member, as_number, as_str, as_u64}
use Rattle.octets.specs.declared.refusal.Refusal.{Refusal}
use Rattle.octets.specs.declared.refusal.Refusal.TheVariants.{Header, Unsupported}
use Rattle.octets.specs.Outcomes.{◌>>=◌, needs}
use Rattle.octets.specs.Refusals.{refusal_text}
use Rattle.ciphers.specs.declared.key_alg.KeyAlg.{KeyAlg}
use Rattle.ciphers.specs.declared.key_alg.KeyManagementMode.{KeyManagementMode}
use Rattle.ciphers.specs.declared.key_alg.KeyManagementMode.TheVariants as mode
use Rattle.ciphers.specs.Algorithms.{management_alg_of, mode_of}
use Rattle.objects.specs.Headers.{joint_header, parameter_octets, salt_octets}

-- ---- places (docs/SPECIFICATION.md "Tools")

-- its text, and how it alone is refused
abbrev pub Place : Type 0
Place = List ℕ × Option Refusal

-- it is refused, and the text of the refusal is that of this one
abbrev pub is_so : Refusal → Option Refusal → Bool
is_so so None = false
is_so so (Some refusal) = bytes_eq (refusal_text refusal) (refusal_text so)

-- the text of the first place that is refused so
unfoldable pub first_so : Refusal → List Place → Option (List ℕ)
first_so so [] = None
first_so so (place ∷ places) = if is_so so place.1 then Some place.0 else first_so so places

abbrev pub where_line : Option (List ℕ) → List (List ℕ)
where_line None = []
where_line (Some text) = (codes "where: " ++ text) ∷ []

-- the last line of an object that is refused, if a place is refused so
abbrev pub where_lines : Option Refusal → List Place → List (List ℕ)
where_lines None places = []
where_lines (Some so) places = where_line (first_so so places)

-- ---- headers (RFC 7515 section 4, RFC 7516 section 4)

-- The headers that all recipients share. A signature has its own protected header, and no shared unprotected one.
pub record SharedHeaders : Type 0 where
  pub protected : Members
  pub unprotected : Members

abbrev pub shared_headers : Members → Members → SharedHeaders
shared_headers protected unprotected = record { protected = protected; unprotected = unprotected }

-- both, if both can be read
abbrev pub shared_by : Result Members Refusal → Result Members Refusal → Option SharedHeaders
shared_by (Ok protected) (Ok unprotected) = Some (shared_headers protected unprotected)
shared_by protected unprotected = None

-- no name is in both
abbrev pub in_two_headers : Members → Members → Place
in_two_headers header other = (codes "a name in two headers", result_err (joint_header header no_members other))

abbrev pub shared_parameter : List ℕ → SharedHeaders → Option Data
shared_parameter name shared = option_or (get_member name shared.protected) (get_member name shared.unprotected)

-- The parameter of this name of the joint header, which is in one of its parts. The first of them is the unprotected header of one
-- recipient or signature.
abbrev pub parameter : List ℕ → Members → SharedHeaders → Option Data
parameter name own shared = option_or (get_member name own) (shared_parameter name shared)

-- ---- parameters (docs/SPECIFICATION.md "Objects" 3 and 4)

-- a string
abbrev pub text_there : Option Data → Result (List ℕ) Refusal
text_there found = ok_or (option_and_then as_str found) Header

-- `p2s` (RFC 7518 section 4.8.1.1)
unfoldable pub salt_there : Option Data → Result (List ℕ) Refusal
salt_there found = do
  text ← text_there found
  salt_octets text

-- `p2c`, at least 1 (RFC 7518 section 4.8.1.2)
unfoldable pub count_there : Option Data → Result (Unit {0}) Refusal
count_there found = do
  count ← ok_or (option_and_then as_u64 (option_and_then as_number found)) Header
  needs (nat_le 1 count) Header

-- `iv` and `tag` (RFC 7518 sections 4.7.1.1 and 4.7.1.2)
unfoldable pub octets_there : Option Data → Result (List ℕ) Refusal
octets_there found = do
  text ← text_there found
  parameter_octets text

-- `crit` and `zip` must be absent
abbrev pub absent : Option Data → Result (Unit {0}) Refusal
absent found = needs (is_none found) Unsupported

-- ---- the places of a joint header (docs/SPECIFICATION.md "Tools")

-- the parameters of a password (RFC 7518 section 4.8.1)
unfoldable pub password_places : Members → SharedHeaders → List Place
password_places own shared =
    (codes "the header parameter p2s", result_err (salt_there (parameter (codes "p2s") own shared)))
    ∷ (codes "the header parameter p2c", result_err (count_there (parameter (codes "p2c") own shared))) ∷ []

-- the parameters of a key wrap by AES in GCM (RFC 7518 section 4.7.1)
unfoldable pub gcm_places : Members → SharedHeaders → List Place
gcm_places own shared =
    (codes "the header parameter iv", result_err (octets_there (parameter (codes "iv") own shared)))
    ∷ (codes "the header parameter tag", result_err (octets_there (parameter (codes "tag") own shared))) ∷ []

-- the parameters that an algorithm of key management reads (RFC 7518 section 4.1)
abbrev pub mode_places : KeyManagementMode → Members → SharedHeaders → List Place
mode_places mode.Direct own shared = []
mode_places mode.KeyWrap own shared = []
mode_places mode.Password own shared = password_places own shared
mode_places mode.GcmKeyWrap own shared = gcm_places own shared

-- an algorithm that is none of these reads none
abbrev pub alg_places : Option KeyAlg → Members → SharedHeaders → List Place
alg_places None own shared = []
alg_places (Some alg) own shared = mode_places (mode_of alg) own shared

abbrev pub named_places : Result (List ℕ) Refusal → Members → SharedHeaders → List Place
named_places (Err refusal) own shared = []
named_places (Ok name) own shared = alg_places (management_alg_of name) own shared

unfoldable pub management_places : Members → SharedHeaders → List Place
management_places own shared = named_places (text_there (parameter (codes "alg") own shared)) own shared

-- only in an encrypted object
abbrev pub if_encrypted : Bool → Option Refusal → Option Refusal
if_encrypted encrypted refusal = if encrypted then refusal else None

-- which algorithms there are
unfoldable pub naming_places : Bool → Members → SharedHeaders → List Place
naming_places encrypted own shared =
    (codes "the header parameter alg", result_err (text_there (parameter (codes "alg") own shared)))
    ∷ (codes "the header parameter enc", if_encrypted encrypted (result_err (text_there (parameter (codes "enc") own shared)))) ∷ []

-- what is not supported
unfoldable pub extension_places : Bool → Members → SharedHeaders → List Place
extension_places encrypted own shared =
    (codes "the header parameter crit", result_err (absent (parameter (codes "crit") own shared)))
    ∷ (codes "the header parameter zip", if_encrypted encrypted (result_err (absent (parameter (codes "zip") own shared)))) ∷ []

-- The parameters of the joint header of a signature, or of a recipient, which is encrypted.
unfoldable pub parameter_places : Bool → Members → SharedHeaders → List Place
parameter_places encrypted own shared = naming_places encrypted own shared ++ (management_places own shared ++ extension_places encrypted own shared)

-- no name is in two parts of the joint header; the shared ones are compared once for the object
unfoldable pub apart_places : Members → SharedHeaders → List Place
apart_places own shared = in_two_headers own shared.protected ∷ in_two_headers own shared.unprotected ∷ []

-- the places of a joint header, if each of its parts can be read
abbrev pub joint_places : Bool → Result Members Refusal → Option SharedHeaders → List Place
joint_places encrypted (Ok own) (Some shared) = apart_places own shared ++ parameter_places encrypted own shared
joint_places encrypted own shared = []
