-- Templates of signatures: the members `protected` and `header` of a signature in JSON form (RFC 7515 section 7.2.1), as objects.
use Rattle.std.specs.Prelude.{ℕ, Bool, true, false, List, [], ◌∷◌, codes, is_some, is_none, nat_le, if◌then◌else◌, Option, Result, Ok}
use Rattle.serde_json.specs.Data.{Data, Members, no_members, member, string, object, put, depth}
use Rattle.serde_json.specs.Find.{get_member}
use Rattle.serde_json.specs.Written.{compact_text}
use Rattle.octets.specs.declared.refusal.Refusal.{Refusal}
use Rattle.octets.specs.declared.refusal.Refusal.TheVariants.{Form, Unsupported}
use Rattle.octets.specs.Outcomes.{◌>>=◌, needs, if_there}
use Rattle.keys.specs.declared.algorithm.SignatureAlg.{SignatureAlg}
use Rattle.keys.specs.Algorithms.{signature_name, signature_alg_of, supported}
use Rattle.keys.specs.Json.{is_object, has_only}
use Rattle.keys.specs.Limits.{Limits}
use Rattle.objects.specs.Headers.{header_at, joint_header, string_parameter}

-- ---- the form (docs/SPECIFICATION.md "Signing" 1)

-- the two headers of a template, and the algorithm that they name, if they do
pub record SignatureTemplate : Type 0 where
  pub protected : Members
  pub per_signature : Members
  pub alg : Option SignatureAlg

-- an object with no members other than `protected` and `header`, which are objects
unfoldable pub template_headers : Data → Result (Members × Members) Refusal
template_headers value = do
  an_object ← needs (is_object value) Form
  known ← needs (has_only (codes "protected" ∷ codes "header" ∷ []) value) Form
  protected ← header_at (codes "protected") value
  per_signature ← header_at (codes "header") value
  Ok (protected, per_signature)

-- ---- the algorithm (docs/SPECIFICATION.md "Signing" 1)

-- the algorithm that two headers without a `crit` name, if they do
unfoldable pub named_alg : Members → Members → Result (Option SignatureAlg) Refusal
named_alg protected per_signature = do
  header ← joint_header protected no_members per_signature
  name ← string_parameter (codes "alg") header
  plain ← needs (is_none (get_member (codes "crit") header)) Unsupported
  if_there (supported signature_alg_of) name

-- the template that a value is
unfoldable pub template_of : Data → Result SignatureTemplate Refusal
template_of value = do
  headers ← template_headers value
  alg ← named_alg headers.0 headers.1
  Ok (record { protected = headers.0; per_signature = headers.1; alg = alg })

-- ---- the headers that are written (RFC 7515 section 5.1, steps 3 and 4, and docs/SPECIFICATION.md "Signing" 4 and 5)

-- the protected header, with the algorithm if the template names none
abbrev pub with_alg : SignatureTemplate → SignatureAlg → Members
with_alg template alg = if is_some template.alg then template.protected else put (codes "alg") (string (signature_name alg)) template.protected

-- its compact JSON text; a header without members has the empty text
abbrev pub header_text : Members → List ℕ
header_text no_members = []
header_text (member name value rest) = compact_text (object (member name value rest))

-- the header is not too deep
abbrev pub is_shallow : Limits → Members → Bool
is_shallow limits members = nat_le (depth (object members)) limits.depth

abbrev pub is_empty : Members → Bool
is_empty no_members = true
is_empty (member name value rest) = false
