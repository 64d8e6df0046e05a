-- A signed object is read from its JSON text and from its compact text.
use Rattle.std.proofs.Common.{◌≡◌, ℕ, List, [], ◌∷◌, map, Bool, true, false, Ok, refl, sym, ap, ◌∙◌, subst}
use Rattle.serde_json.specs.Data.{no_members}
use Rattle.octets.specs.declared.refusal.Refusal.TheVariants.{NotCompact}
use Rattle.octets.specs.Base64url.{base64url}
use Rattle.octets.specs.Outcomes.{needs}
use Rattle.keys.specs.Limits.{Limits}
use Rattle.objects.specs.Jws.{JwsParts, Signature, SignedObject, encoded_in_compact, encoded_jws, decoded_object, jws_of, built, members_text, signature_parts_of, json_text, compact_parts, is_compact, jws_compact_text, jws_text, AreMembers, IsMade, TextsSpellObjects}
use Rattle.objects.specs.Texts.{handed_in, between_dots, kept}
use Rattle.objects.proofs.BuildingJws.{building_is_reading}
use Rattle.objects.proofs.Characters.{joined_characters, no_json_form, no_line_end}
use Rattle.objects.proofs.CompactTexts.{all_no_dot, three_of_joined}
use Rattle.objects.proofs.DetachedContent.{kept_read, kept_characters}
use Rattle.objects.proofs.Spelling.{no_member}
use Rattle.objects.proofs.SpellingJws.{spelled, parts_spelled, parts_are, object_keeps, IsBuilt, jws_is_built, object_read, HasUrlTexts, url_texts}
use Rattle.octets.proofs.Lemmas.{steps, passed, same_answer}

-- the texts of a compact text with these parts
abbrev compact : List ℕ → List ℕ → List ℕ → JwsParts
compact protected payload signature = record {
  payload = payload;
  signatures = record { protected = protected; header = no_members; signature = signature } ∷ [];
}

-- The parts are read as they were joined, with the payload that is handed in if it is detached.
split_in_three : (detach : Bool) (protected payload signature : List ℕ) → HasUrlTexts (compact protected (base64url payload) signature)
    → encoded_in_compact (handed_in detach payload) (between_dots (protected ∷ kept detach (base64url payload) ∷ signature ∷ []))
    ≡ Ok (compact protected (base64url payload) signature)
unfolding encoded_in_compact
split_in_three detach protected payload signature h =
    let part : List ℕ = kept detach (base64url payload) in
    let no_dot = all_no_dot part (kept_characters detach (base64url payload) h.payload) in
    let parts = three_of_joined protected part signature (all_no_dot protected h.signatures.0.0) no_dot (all_no_dot signature h.signatures.0.1) in
    rw (parts, kept_read detach payload) refl

-- the single signature of an object that fits into compact form: its texts, and their compact text
record IsAlone (detach : Bool) (o : SignedObject) (signatures : List Signature) : Type 0 where
  protected : List ℕ
  signature : List ℕ
  texts : spelled o ≡ compact protected (base64url o.payload) signature
  text : compact_parts detach o.payload (map signature_parts_of signatures) ≡ between_dots (protected ∷ kept detach (base64url o.payload) ∷ signature ∷ [])

only_signature : (detach : Bool) (o : SignedObject) (signatures : List Signature) → o.signatures ≡ signatures → is_compact signatures ≡ true
    → IsAlone detach o signatures
only_signature detach o [] is fits = cc fits
only_signature detach o (s ∷ []) is fits = record {
  protected = s.protected;
  signature = base64url s.signature;
  texts = rw (is, no_member s.header fits) refl;
  text = refl;
}
only_signature detach o (s ∷ (other ∷ rest)) is fits = cc fits

-- If the object is read from its texts, it is read from the compact text of these.
read_compact : (limits : Limits) (detach : Bool) (protected payload signature : List ℕ) (o : SignedObject)
    → HasUrlTexts (compact protected (base64url payload) signature)
    → decoded_object limits (compact protected (base64url payload) signature) ≡ Ok o
    → jws_of limits (handed_in detach payload) (between_dots (protected ∷ kept detach (base64url payload) ∷ signature ∷ [])) ≡ Ok o
unfolding jws_of encoded_jws
read_compact limits detach protected payload signature o url h =
    let parts : List (List ℕ) = protected ∷ kept detach (base64url payload) ∷ signature ∷ [] in
    let text : List ℕ = between_dots parts in
    let all = joined_characters parts (url.signatures.0.0, (kept_characters detach (base64url payload) url.payload, (url.signatures.0.1, tt))) in
    rw (no_json_form text all, no_line_end text all, split_in_three detach protected payload signature url) h

-- An object is read from its compact text.
compact_text_spells : (limits : Limits) (parts : JwsParts) (o : SignedObject) → AreMembers parts → IsBuilt limits parts o → (detach : Bool)
    → (text : List ℕ) → jws_compact_text detach o ≡ Ok text → jws_of limits (handed_in detach o.payload) text ≡ Ok o
unfolding jws_compact_text
compact_text_spells limits parts o members is detach text h =
    let a = steps (needs (is_compact o.signatures) NotCompact) _ text h in
    let one = only_signature detach o o.signatures refl (passed _ NotCompact a.0 a.1) in
    let texts : parts_spelled parts ≡ compact one.protected (base64url o.payload) one.signature = sym (object_keeps limits parts o is) ∙ one.texts in
    ap (jws_of limits (handed_in detach o.payload)) (sym (same_answer _ text a.2) ∙ one.text)
    ∙ read_compact limits detach one.protected o.payload one.signature o (subst HasUrlTexts texts (url_texts limits parts o members is))
    (ap (decoded_object limits) (sym texts) ∙ object_read limits parts o members is)

-- An object is read from its JSON text.
json_text_spells : (limits : Limits) (parts : JwsParts) (o : SignedObject) → AreMembers parts → built limits parts ≡ Ok o → (detach : Bool)
    → jws_of limits (handed_in detach o.payload) (json_text detach o) ≡ Ok o
json_text_spells limits parts o members h detach =
    let same = parts_are limits parts o (jws_is_built limits parts o h) in
    ap (λ (p : JwsParts). jws_of limits (handed_in detach p.payload) (members_text detach p)) same ∙ sym (building_is_reading limits parts members detach) ∙ h

-- An object that is built of its members is read from its texts.
pub texts_spell_objects : TextsSpellObjects
texts_spell_objects limits parts o members h detach =
    (json_text_spells limits parts o members h detach, compact_text_spells limits parts o members (jws_is_built limits parts o h) detach)

-- ---- the text that is written

-- In either form, an object that can be made is read from its text.
pub written_spells : (limits : Limits) (compact detach : Bool) (o : SignedObject) (text : List ℕ) → IsMade limits o → jws_text compact detach o ≡ Ok text
    → jws_of limits (handed_in detach o.payload) text ≡ Ok o
written_spells limits true detach o text made h = (texts_spell_objects limits made.0 o made.1.0 made.1.1 detach).1 text h
written_spells limits false detach o text made h =
    ap (jws_of limits (handed_in detach o.payload)) (sym (same_answer (json_text detach o) text h))
    ∙ (texts_spell_objects limits made.0 o made.1.0 made.1.1 detach).0
