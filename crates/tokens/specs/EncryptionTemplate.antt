-- Templates of encrypted objects: the members `protected`, `unprotected` and `aad` of one in JSON form (RFC 7516 section 7.2.1), as objects
-- and a string.
use Rattle.std.specs.Prelude.{ℕ, ◌&&◌, Bool, List, [], ◌∷◌, codes, is_none, Option, Result, Ok}
use Rattle.serde_json.specs.Data.{Data, Members, no_members}
use Rattle.serde_json.specs.Find.{get_member}
use Rattle.octets.specs.declared.refusal.Refusal.{Refusal}
use Rattle.octets.specs.declared.refusal.Refusal.TheVariants.{Form, Header, Unsupported}
use Rattle.octets.specs.Outcomes.{◌>>=◌, needs, if_there}
use Rattle.octets.specs.Base64url.{decoded}
use Rattle.ciphers.specs.declared.content_alg.ContentAlg.{ContentAlg}
use Rattle.ciphers.specs.declared.key_alg.KeyAlg.{KeyAlg}
use Rattle.ciphers.specs.Algorithms.{management_alg_of, encryption_alg_of}
use Rattle.keys.specs.Algorithms.{supported}
use Rattle.keys.specs.Json.{is_object, has_only}
use Rattle.objects.specs.Headers.{header_at, joint_header, string_parameter, number_parameter}
use Rattle.objects.specs.Jwe.{has_no_crit_or_zip}
use Rattle.objects.specs.Texts.{text_at}

-- ---- the template (docs/SPECIFICATION.md "Encrypting" 1 and 4)

-- its headers and the text of its additional data
pub record TemplateTexts : Type 0 where
  pub protected : Members
  pub unprotected : Members
  pub aad : List ℕ

-- an object with no members other than `protected` and `unprotected`, which are objects, and `aad`, which is a string
unfoldable pub template_texts : Data → Result TemplateTexts Refusal
template_texts value = do
  an_object ← needs (is_object value) Form
  known ← needs (has_only (codes "protected" ∷ codes "unprotected" ∷ codes "aad" ∷ []) value) Form
  protected ← header_at (codes "protected") value
  unprotected ← header_at (codes "unprotected") value
  aad ← text_at (codes "aad") value
  Ok (record { protected = protected; unprotected = unprotected; aad = aad })

-- The algorithms that the headers name, if they do, and the count of iterations, if they have one. A count that is no whole number is
-- refused later, and only for an algorithm that reads it.
pub record AlgorithmsAsked : Type 0 where
  pub management : Option KeyAlg
  pub encryption : Option ContentAlg
  pub p2c : Result (Option ℕ) Refusal

-- The header has no parameters that are drawn or made for a recipient, whatever the algorithm: no salt input of a password, and no
-- initialization vector and tag of AES-GCM key wrap (RFC 7518 sections 4.8.1.1, 4.7.1.1 and 4.7.1.2).
abbrev pub leaves_parameters : Members → Bool
leaves_parameters header =
    is_none (get_member (codes "p2s") header) && (is_none (get_member (codes "iv") header) && is_none (get_member (codes "tag") header))

-- the algorithms and the count of two headers that leave these parameters out and have neither `crit` nor `zip`, or the first refusal
unfoldable pub algorithms_asked : Members → Members → Result AlgorithmsAsked Refusal
algorithms_asked protected unprotected = do
  header ← joint_header protected unprotected no_members
  alg ← string_parameter (codes "alg") header
  enc ← string_parameter (codes "enc") header
  left ← needs (leaves_parameters header) Header
  plain ← needs (has_no_crit_or_zip header) Unsupported
  management ← if_there (supported management_alg_of) alg
  encryption ← if_there (supported encryption_alg_of) enc
  Ok (record { management = management; encryption = encryption; p2c = number_parameter (codes "p2c") header })

pub record EncryptionTemplate : Type 0 where
  pub protected : Members
  pub unprotected : Members
  pub aad : List ℕ
  pub asked : AlgorithmsAsked

-- the template that a value is
unfoldable pub encryption_template : Data → Result EncryptionTemplate Refusal
encryption_template value = do
  texts ← template_texts value
  aad ← decoded texts.aad
  asked ← algorithms_asked texts.protected texts.unprotected
  Ok (record { protected = texts.protected; unprotected = texts.unprotected; aad = aad; asked = asked })
