-- An encrypted object is read from its JSON text and from its compact text.
use Rattle.std.proofs.Common.{◌≡◌, ◌==◌, ◌&&◌, ℕ, List, [], ◌∷◌, length, map, Bool, true, false, not, Ok, refl, sym, ap, ◌∙◌, subst, arith}
use Rattle.std.proofs.lemmas.Bool.{and_parts, eqb-true}
use Rattle.octets.specs.declared.refusal.Refusal.TheVariants.{NotCompact}
use Rattle.octets.specs.Base64url.{base64url}
use Rattle.octets.specs.Outcomes.{needs}
use Rattle.keys.specs.Limits.{Limits}
use Rattle.objects.specs.Jwe.{JweParts, Recipient, EncryptedObject, compact_members, encoded_in_compact, encoded_jwe, decoded_object, jwe_of, built, members_text, recipient_parts_of, parts_of, json_text, is_compact, key_of_first, jwe_compact_text, jwe_text, AreMembers, IsMade, TextsSpellObjects}
use Rattle.objects.specs.Texts.{has_members, handed_in, between_dots, kept}
use Rattle.objects.proofs.BuildingJwe.{building_is_reading}
use Rattle.objects.proofs.Characters.{joined_characters, no_json_form, no_line_end}
use Rattle.objects.proofs.CompactTexts.{all_no_dot, split_of_joined, three_of_joined}
use Rattle.objects.proofs.DetachedContent.{kept_read, kept_characters}
use Rattle.objects.proofs.MadeOf.{object_is}
use Rattle.objects.proofs.Spelling.{no_member}
use Rattle.objects.proofs.SpellingJwe.{spelled, parts_spelled, object_keeps, IsBuilt, jwe_is_built, object_read, HasUrlTexts, url_texts}
use Rattle.octets.proofs.Lemmas.{steps, passed, same_answer, spells_six_bits}

-- The parts are read as they were joined, with the ciphertext that is handed in if it is detached.
split_in_five : (detach : Bool) (protected key iv ciphertext tag : List ℕ) → HasUrlTexts (compact_members protected key iv (base64url ciphertext) tag)
    → encoded_in_compact (handed_in detach ciphertext) (between_dots (protected ∷ key ∷ iv ∷ kept detach (base64url ciphertext) ∷ tag ∷ []))
    ≡ Ok (compact_members protected key iv (base64url ciphertext) tag)
unfolding encoded_in_compact
split_in_five detach protected key iv ciphertext tag h =
    let part : List ℕ = kept detach (base64url ciphertext) in
    let no_dot = all_no_dot part (kept_characters detach (base64url ciphertext) h.ciphertext) in
    let first = split_of_joined protected (between_dots (key ∷ iv ∷ part ∷ tag ∷ [])) (all_no_dot protected h.protected) in
    let second = split_of_joined key (between_dots (iv ∷ part ∷ tag ∷ [])) (all_no_dot key h.keys.0) in
    let others = three_of_joined iv part tag (all_no_dot iv h.iv) no_dot (all_no_dot tag h.tag) in
    rw (first, second, others, kept_read detach ciphertext) refl

-- If there are no octets, their text is empty.
no_text : (xs : List ℕ) → (length xs == 0) ≡ true → base64url xs ≡ []
no_text [] h = spells_six_bits [] (λ i. omega arith)
no_text (x ∷ xs) h = absurd (omega (arith, eqb-true _ 0 h))

-- An object that fits into compact form has one recipient, and only the texts of a compact text.
only_recipient : (o : EncryptedObject) (rs : List Recipient) → o.recipients ≡ rs → is_compact o rs ≡ true
    → spelled o ≡ compact_members o.protected (base64url (key_of_first (map recipient_parts_of rs))) (base64url o.iv) (base64url o.ciphertext) (base64url o.tag)
only_recipient o [] is fits = cc fits
only_recipient o (r ∷ []) is fits =
    let first = and_parts (not (has_members o.unprotected)) (not (has_members r.header) && (length o.aad == 0)) fits in
    let others = and_parts (not (has_members r.header)) (length o.aad == 0) first.1 in
    rw (is, no_member o.unprotected first.0, no_member r.header others.0, no_text o.aad others.1) refl
only_recipient o (r ∷ (other ∷ rest)) is fits = cc fits

-- If the object is read from its texts, it is read from the compact text of these.
read_compact : (limits : Limits) (detach : Bool) (protected key iv ciphertext tag : List ℕ) (o : EncryptedObject)
    → HasUrlTexts (compact_members protected key iv (base64url ciphertext) tag)
    → decoded_object limits (compact_members protected key iv (base64url ciphertext) tag) ≡ Ok o
    → jwe_of limits (handed_in detach ciphertext) (between_dots (protected ∷ key ∷ iv ∷ kept detach (base64url ciphertext) ∷ tag ∷ [])) ≡ Ok o
unfolding jwe_of encoded_jwe
read_compact limits detach protected key iv ciphertext tag o url h =
    let parts : List (List ℕ) = protected ∷ key ∷ iv ∷ kept detach (base64url ciphertext) ∷ tag ∷ [] in
    let text : List ℕ = between_dots parts in
    let all = joined_characters parts (url.protected, (url.keys.0, (url.iv, (kept_characters detach (base64url ciphertext) url.ciphertext, (url.tag, tt))))) in
    rw (no_json_form text all, no_line_end text all, split_in_five detach protected key iv ciphertext tag url) h

-- An object is read from its compact text.
compact_text_spells : (limits : Limits) (parts : JweParts) (o : EncryptedObject) → AreMembers parts → IsBuilt limits parts o → (detach : Bool)
    → (text : List ℕ) → jwe_compact_text detach o ≡ Ok text → jwe_of limits (handed_in detach o.ciphertext) text ≡ Ok o
unfolding jwe_compact_text
compact_text_spells limits parts o members is detach text h =
    let a = steps (needs (is_compact o o.recipients) NotCompact) _ text h in
    let protected : List ℕ = o.protected in
    let key : List ℕ = base64url (key_of_first (parts_of o).recipients) in
    let iv : List ℕ = base64url o.iv in
    let ciphertext : List ℕ = base64url o.ciphertext in
    let tag : List ℕ = base64url o.tag in
    let texts : parts_spelled parts ≡ compact_members protected key iv ciphertext tag =
    sym (object_keeps limits.management is.octets parts o is.made) ∙ only_recipient o o.recipients refl (passed _ NotCompact a.0 a.1) in
    let joined : text ≡ between_dots (protected ∷ key ∷ iv ∷ kept detach ciphertext ∷ tag ∷ []) =
    sym (same_answer _ text a.2) in
    ap (jwe_of limits (handed_in detach o.ciphertext)) joined
    ∙ read_compact limits detach protected key iv o.ciphertext tag o (subst HasUrlTexts texts (url_texts limits parts o members is))
    (ap (decoded_object limits) (sym texts) ∙ object_read limits parts o members is)

-- An object is read from its JSON text.
json_text_spells : (limits : Limits) (parts : JweParts) (o : EncryptedObject) → AreMembers parts → built limits parts ≡ Ok o → (detach : Bool)
    → jwe_of limits (handed_in detach o.ciphertext) (json_text detach o) ≡ Ok o
json_text_spells limits parts o members h detach =
    let is = jwe_is_built limits parts o h in
    ap (λ (p : JweParts). jwe_of limits (handed_in detach p.ciphertext) (members_text detach p)) (object_is limits.management is.octets parts o is.made)
    ∙ sym (building_is_reading limits parts members detach) ∙ h

-- An object that is built of its members is read from its texts.
pub texts_spell_objects : TextsSpellObjects
texts_spell_objects limits parts o members h detach =
    (json_text_spells limits parts o members h detach, compact_text_spells limits parts o members (jwe_is_built limits parts o h) detach)

-- ---- the text that is written

-- In either form, an object that can be made is read from its text.
pub written_spells : (limits : Limits) (compact detach : Bool) (o : EncryptedObject) (text : List ℕ) → IsMade limits o → jwe_text compact detach o ≡ Ok text
    → jwe_of limits (handed_in detach o.ciphertext) text ≡ Ok o
written_spells limits true detach o text made h = (texts_spell_objects limits made.0 o made.1.0 made.1.1 detach).1 text h
written_spells limits false detach o text made h =
    ap (jwe_of limits (handed_in detach o.ciphertext)) (sym (same_answer (json_text detach o) text h))
    ∙ (texts_spell_objects limits made.0 o made.1.0 made.1.1 detach).0
