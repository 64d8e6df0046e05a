-- Signing with each key of a set (RFC 7515 section 5.1), in compact form (section 7.1) or in JSON form (section 7.2).
use Rattle.std.specs.Prelude.{◌≡◌, ℕ, ◌&&◌, Bool, true, false, List, [], ◌++◌, length, map, nat_le, if◌then◌else◌, Option, Some, None, Result, Ok}
use Rattle.std.specs.List.{list_all}
use Rattle.std.specs.Option.{ok_or}
use Rattle.serde_json.specs.Data.{Members}
use Rattle.octets.specs.declared.refusal.Refusal.{Refusal}
use Rattle.octets.specs.declared.refusal.Refusal.TheVariants.{NoAlgorithm, KeyDoesNotFit, Limit, NotCompact}
use Rattle.octets.specs.Outcomes.{◌>>=◌, needs}
use Rattle.octets.specs.Base64url.{base64url, whole_groups}
use Rattle.octets.specs.Plan.{OutputTexts, Plan, BothGrow}
use Rattle.keys.specs.declared.algorithm.Algorithm.TheVariants.{Signature}
use Rattle.keys.specs.declared.algorithm.SignatureAlg.{SignatureAlg}
use Rattle.keys.specs.declared.operation.Operation.TheVariants.{Sign}
use Rattle.keys.specs.Algorithms.{longest_alg_for, signature_alg_of}
use Rattle.keys.specs.Json.{json_value}
use Rattle.keys.specs.Limits.{Limits, limits, are_few}
use Rattle.keys.specs.Keys.{OctetKey, allows, fits}
use Rattle.objects.specs.Jws.{SignatureParts, JwsParts, SignedObject, built, jws_text}
use Rattle.objects.specs.Texts.{each, handed_out, before_content}
use Rattle.tokens.specs.Template.{SignatureTemplate, template_of, with_alg, header_text, is_shallow, is_empty}
use Rattle.tokens.specs.Signatures.{signature_of}

-- ---- the algorithm of a key (docs/SPECIFICATION.md "Signing" 2)

-- the one that its `alg` names, or the one with the longest hash that a key of n octets is long enough for
abbrev pub alg_of_key : Option (List ℕ) → ℕ → Result SignatureAlg Refusal
alg_of_key None n = ok_or (longest_alg_for n) NoAlgorithm
alg_of_key (Some name) n = ok_or (signature_alg_of name) KeyDoesNotFit

-- that of the template, or that of the key
abbrev pub chosen_alg : Option SignatureAlg → OctetKey → Result SignatureAlg Refusal
chosen_alg (Some alg) key = Ok alg
chosen_alg None key = alg_of_key key.alg (length key.octets)

-- ---- the signers (docs/SPECIFICATION.md "Signing" 2 to 4)

-- a key, the algorithm that it signs by, and the protected header of its signature
pub record Signer : Type 0 where
  pub key : OctetKey
  pub alg : SignatureAlg
  pub protected : Members

unfoldable pub signer_by : SignatureTemplate → OctetKey → Result Signer Refusal
signer_by template key = do
  alg ← chosen_alg template.alg key
  Ok (record { key = key; alg = alg; protected = with_alg template alg })

-- the key may sign, and fits
abbrev pub may_sign : Signer → Bool
may_sign s = allows s.key Sign && fits s.key (Signature s.alg)

-- all that keys and a template settle: the signers in order, and the unprotected header of each signature
pub record Signing : Type 0 where
  pub signers : List Signer
  pub header : Members

-- a compact text holds one signature, and no unprotected header
abbrev pub compact_has_room : Bool → Signing → Bool
compact_has_room compact s = if compact then nat_le (length s.signers) 1 && is_empty s.header else true

-- Each step is taken for every key before the next.
unfoldable pub settle_signing : Limits → Bool → List OctetKey → SignatureTemplate → Result Signing Refusal
settle_signing limits compact keys template = do
  signers ← each (signer_by template) keys
  fit ← needs (list_all may_sign signers) KeyDoesNotFit
  shallow ← needs (list_all (λ s. is_shallow limits s.protected) signers && is_shallow limits template.per_signature) Limit
  alone ← needs (compact_has_room compact (record { signers = signers; header = template.per_signature })) NotCompact
  Ok (record { signers = signers; header = template.per_signature })

-- that of keys and a template's text, or the first refusal
unfoldable pub read_signing : Limits → Bool → List OctetKey → List ℕ → Result Signing Refusal
read_signing limits compact keys text = do
  value ← json_value text
  template ← template_of value
  settle_signing limits compact keys template

-- ---- the object of a payload (RFC 7515 section 5.1, steps 3 to 7)

-- the text of the protected header (step 4)
abbrev pub protected_by : Signer → List ℕ
protected_by s = base64url (header_text s.protected)

-- the signature is that of this text and the payload (step 5)
abbrev pub signature_by : Members → List ℕ → Signer → SignatureParts
signature_by header payload s = record {
  protected = protected_by s;
  header = header;
  signature = signature_of s.alg s.key.octets (protected_by s) payload;
}

abbrev pub parts_by : Signing → List ℕ → JwsParts
parts_by s payload = record { payload = payload; signatures = map (signature_by s.header payload) s.signers }

unfoldable pub signed : Limits → Signing → List ℕ → Result SignedObject Refusal
signed limits s payload = built limits (parts_by s payload)

-- ---- its text (RFC 7515 section 5.1, step 8, and docs/SPECIFICATION.md "Commands", what is left after a refusal)

-- what is written of the object: its text, and the payload if it is detached
abbrev pub written_of : Bool → Bool → SignedObject → Result OutputTexts Refusal
written_of compact detach o = do
  text ← jws_text compact detach o
  Ok (record { text = text; content = handed_out detach o.payload })

-- the text before that of the payload
abbrev pub text_before : Limits → Bool → Signing → List ℕ
text_before limits compact s = before_content (λ payload. signed limits s payload >>= jws_text compact false)

-- A beginning of the payload fixes the text before the payload, and the base64url text of the whole groups of three octets that were read.
-- A text with a detached payload is written only after the payload.
abbrev pub text_fixed : Limits → Bool → Bool → Signing → List ℕ → List ℕ
text_fixed _ compact true s front = []
text_fixed limits compact false s front = text_before limits compact s ++ base64url (whole_groups front)

-- what is written for each payload
abbrev pub plan_by : Limits → Bool → Bool → Signing → Plan OutputTexts
plan_by limits compact detach s = record {
  whole = λ payload. signed limits s payload >>= written_of compact detach;
  fixed = λ front. record { text = text_fixed limits compact detach s front; content = handed_out detach front };
}

-- the plan of the signers of keys and a template's text, or the first refusal
unfoldable pub sig_plan : Limits → Bool → Bool → List OctetKey → List ℕ → Result (Plan OutputTexts) Refusal
sig_plan limits compact detach keys template = do
  s ← read_signing limits compact keys template
  Ok (plan_by limits compact detach s)

-- the plan of every signing goes on as its payload does
abbrev pub SigningGrows : Type 0
SigningGrows = (compact detach : Bool) (s : Signing) → BothGrow (plan_by limits compact detach s)

-- What a template and 1 to 256 keys settle makes an object of every payload, and its texts.
abbrev pub SigningMakesTexts : Type 0
SigningMakesTexts = (compact detach : Bool) (keys : List OctetKey) (template payload : List ℕ) (plan : Plan OutputTexts) → nat_le 1 (length keys) ≡ true
    → are_few limits (length keys) ≡ true
    → sig_plan limits compact detach keys template ≡ Ok plan → (texts : OutputTexts) × (plan.whole payload ≡ Ok texts)
