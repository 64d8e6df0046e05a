-- The texts around the ciphertext and the tag of an encrypted object.
use Rattle.std.proofs.Common.{◌≡◌, ◌||◌, ℕ, suc, List, [], ◌∷◌, ◌++◌, length, codes, Bool, true, false, nat_le, if◌then◌else◌, Ok, refl, sym, ap, ◌∙◌, subst, arith}
use Rattle.std.proofs.lemmas.Bool.{le-leb}
use Rattle.octets.specs.declared.refusal.Refusal.TheVariants.{NotCompact}
use Rattle.octets.specs.Base64url.{base64url, decoded}
use Rattle.octets.specs.Octets.{IsOctets}
use Rattle.octets.specs.Outcomes.{needs}
use Rattle.objects.specs.Code.Frames.{in_places, jwe_frame, sealed_with, IsJweFrame}
use Rattle.objects.specs.Jwe.{Recipient, RecipientParts, EncryptedObject, parts_of, key_of_first, is_compact}
use Rattle.objects.specs.Code.Writing.{Written, all_texts, nothing_written, inside, with_text, with_items, place_by, with_place}
use Rattle.objects.specs.Code.JweWriting.{with_recipient, with_flattened, with_general, tag_by, with_tag, with_compact, jwe_json, jwe_written}
use Rattle.objects.proofs.DetachedContent.{no_octets}
use Rattle.objects.proofs.JweWritten.{jwe_whole}
use Rattle.objects.proofs.Places.{Fills, is_filled, places_count, fills_nothing, fills_pushed, fills_closed, fills_opened, fills_separated, fills_named, fills_text, fills_header, fills_place, fills_content, fills_part, fills_place_part, fills_content_part, places_are}
use Rattle.octets.proofs.Lemmas.{IsOctets-nil, first_or, decoded-nil, steps, passed, same_answer, decodes_exactly}

-- ---- the members

recipient_fills : (r : RecipientParts) (w : Written) (values : List (List ℕ)) (v : Written) → Fills w values v
    → Fills (with_recipient r w) values (with_recipient r v)
recipient_fills r w values v f = fills_header (codes "header") r.header _ values _ (fills_text (codes "encrypted_key") (base64url r.encrypted_key) w values v f)

items_fill : (rs : List RecipientParts) (w : Written) (values : List (List ℕ)) (v : Written) → Fills w values v
    → Fills (with_items with_recipient rs w) values (with_items with_recipient rs v)
items_fill [] w values v f = f
items_fill (r ∷ rs) w values v f =
    let start = fills_opened (codes "{") _ values _ (fills_separated w values v f) in
    items_fill rs _ values _ (fills_closed (codes "}") _ values _ (recipient_fills r _ values _ start))

flattened_fills : (rs : List RecipientParts) (w : Written) (values : List (List ℕ)) (v : Written) → Fills w values v
    → Fills (with_flattened rs w) values (with_flattened rs v)
flattened_fills [] w values v f = f
flattened_fills (r ∷ []) w values v f = recipient_fills r w values v f
flattened_fills (r ∷ (other ∷ rest)) w values v f = f

general_fills : (rs : List RecipientParts) (w : Written) (values : List (List ℕ)) (v : Written) → Fills w values v
    → Fills (with_general rs w) values (with_general rs v)
general_fills [] w values v f = fills_closed (codes "]") _ values _ (fills_opened (codes "[") _ values _ (fills_named (codes "recipients") w values v f))
general_fills (r ∷ []) w values v f = f
general_fills (r ∷ (other ∷ rest)) w values v f =
    fills_closed (codes "]") _ values _ (items_fill (r ∷ (other ∷ rest)) _ values _
    (fills_opened (codes "[") _ values _ (fills_named (codes "recipients") w values v f)))

-- The text of octets is not empty, if there are any.
some_text : (octets : List ℕ) → IsOctets octets → nat_le 1 (length octets) ≡ true → (c : ℕ) × ((rest : List ℕ) × (base64url octets ≡ c ∷ rest))
some_text octets is some = by_text (base64url octets) refl
  where
    by_text : (text : List ℕ) → base64url octets ≡ text → (c : ℕ) × ((rest : List ℕ) × (base64url octets ≡ c ∷ rest))
    by_text [] h =
        let none : octets ≡ [] = same_answer octets [] (sym (decodes_exactly.round_trip octets is) ∙ ap decoded h ∙ decoded-nil) in
        let both : false ≡ true = ap (λ l. nat_le 1 (length l)) (sym none) ∙ some in
        cc both
    by_text (c ∷ rest) h = (c, (rest, h))

-- If the tag is not empty or places are left, the tag is written as a member or gets a place.
pub tag_is_placed : (tag : List ℕ) (w : Written) → IsOctets tag → (w.places || nat_le 1 (length tag)) ≡ true → with_place (codes "tag") tag w ≡ with_tag tag w
tag_is_placed tag w is h = by_places w.places refl h
  where
    by_places : (b : Bool) → w.places ≡ b → (b || nat_le 1 (length tag)) ≡ true → with_place (codes "tag") tag w ≡ tag_by b tag w
    by_places true e h = refl
    by_places false e h =
        let text = some_text tag is h in
        let value : with_text (codes "tag") (base64url tag) w ≡ place_by false (codes "tag") tag w = rw text.1.1 refl in
        ap (λ b. place_by b (codes "tag") tag w) e ∙ sym value

-- If the tag is empty and no places are left, nothing is written.
pub tag_is_absent : (tag : List ℕ) (w : Written) → (w.places || nat_le 1 (length tag)) ≡ false → w ≡ with_tag tag w
tag_is_absent tag w h = by_places w.places tag h
  where
    by_places : (b : Bool) (tag : List ℕ) → (b || nat_le 1 (length tag)) ≡ false → w ≡ tag_by b tag w
    by_places true tag h = cc h
    by_places false [] h = rw no_octets refl
    by_places false (x ∷ tag) h = let both : true ≡ false = sym (le-leb 1 (length (x ∷ tag)) (omega arith)) ∙ h in cc both

-- A tag that is not empty fills its place.
tag_fills : (own tag : List ℕ) (w : Written) (values : List (List ℕ)) (v : Written) → IsOctets tag → nat_le 1 (length tag) ≡ true → Fills w values v
    → Fills (with_tag own w) (values ++ base64url tag ∷ []) (with_tag tag v)
tag_fills own tag w values v is some f =
    let both : List (List ℕ) = values ++ base64url tag ∷ [] in
    let text = some_text tag is some in
    let value : with_text (codes "tag") (base64url tag) v ≡ place_by false (codes "tag") tag v = rw text.1.1 refl in
    let placed = subst (λ b. Fills (with_place (codes "tag") own w) both (place_by b (codes "tag") tag v)) f.whole
    (fills_place (codes "tag") own tag w values v is f) in
    subst (λ b. Fills (tag_by b own w) both (with_tag tag v)) (sym f.leaves)
    (subst (λ b. Fills (with_place (codes "tag") own w) both (tag_by b tag v)) (sym f.whole)
    (subst (Fills (with_place (codes "tag") own w) both) (sym value) placed))

-- ---- in either form

-- Filled with a ciphertext and a tag, the texts are those of the object with these in place of its own.
record IsRound (compact detach : Bool) (o : EncryptedObject) (w : Written) (ciphertext tag : List ℕ) : Type 0 where
  whole : Written
  written : jwe_written false compact detach (sealed_with o ciphertext tag) ≡ Ok whole
  fills : Fills w (in_places detach ciphertext [] ++ base64url tag ∷ []) whole

-- The ciphertext and the tag do not decide whether the object has a compact text.
same_fit : (o : EncryptedObject) (ciphertext tag : List ℕ) (rs : List Recipient) → is_compact (sealed_with o ciphertext tag) rs ≡ is_compact o rs
same_fit o ciphertext tag [] = refl
same_fit o ciphertext tag (r ∷ []) = refl
same_fit o ciphertext tag (r ∷ (other ∷ rest)) = refl

compact_fills : (detach : Bool) (o : EncryptedObject) (ciphertext tag : List ℕ)
    → Fills (with_compact (inside detach o.ciphertext) (parts_of o) (nothing_written true))
    (in_places detach ciphertext [] ++ base64url tag ∷ [])
    (with_compact (inside detach ciphertext) (parts_of (sealed_with o ciphertext tag)) (nothing_written false))
compact_fills detach o ciphertext tag =
    let key = fills_part (key_of_first (parts_of o).recipients) _ [] _ (fills_pushed o.protected _ [] _ fills_nothing) in
    let content = fills_content_part detach o.ciphertext ciphertext _ _ (fills_part o.iv _ [] _ key) in
    fills_place_part o.tag tag _ (in_places detach ciphertext []) _ content

json_fills : (detach : Bool) (o : EncryptedObject) (ciphertext tag : List ℕ) → IsOctets ciphertext → IsOctets tag → nat_le 1 (length tag) ≡ true
    → Fills (jwe_json true detach (parts_of o)) (in_places detach ciphertext [] ++ base64url tag ∷ [])
    (jwe_json false detach (parts_of (sealed_with o ciphertext tag)))
json_fills detach o ciphertext tag is tagged some =
    let rs : List RecipientParts = (parts_of o).recipients in
    let first : List (List ℕ) = in_places detach ciphertext [] in
    let both : List (List ℕ) = first ++ base64url tag ∷ [] in
    let aad = fills_text (codes "aad") (base64url o.aad) _ [] _ (fills_opened (codes "{") _ [] _ fills_nothing) in
    let content = fills_content (codes "ciphertext") detach o.ciphertext ciphertext _ _ is aad in
    let iv = fills_text (codes "iv") (base64url o.iv) _ first _ (flattened_fills rs _ first _ content) in
    let general = general_fills rs _ first _ (fills_text (codes "protected") o.protected _ first _ iv) in
    fills_closed (codes "}") _ both _ (fills_header (codes "unprotected") o.unprotected _ both _ (tag_fills o.tag tag _ first _ tagged some general))

round : (compact detach : Bool) (o : EncryptedObject) (w : Written) → jwe_written true compact detach o ≡ Ok w → (ciphertext tag : List ℕ)
    → IsOctets ciphertext → IsOctets tag
    → nat_le 1 (length tag) ≡ true → IsRound compact detach o w ciphertext tag
round true detach o w h ciphertext tag octets tagged some =
    let fits = steps (needs (is_compact o o.recipients) NotCompact) _ w h in
    let is : is_compact o o.recipients ≡ true = passed _ NotCompact fits.0 fits.1 in
    subst (λ w. IsRound true detach o w ciphertext tag) (same_answer _ w fits.2)
    (record {
      whole = with_compact (inside detach ciphertext) (parts_of (sealed_with o ciphertext tag)) (nothing_written false);
      written = rw (same_fit o ciphertext tag o.recipients ∙ is) refl;
      fills = compact_fills detach o ciphertext tag;
    })
round false detach o w h ciphertext tag octets tagged some =
    subst (λ w. IsRound false detach o w ciphertext tag) (same_answer _ w h)
    (record {
      whole = jwe_json false detach (parts_of (sealed_with o ciphertext tag));
      written = refl;
      fills = json_fills detach o ciphertext tag octets tagged some;
    })

-- The texts of the object are a frame for a ciphertext and a tag.
texts_are : (compact detach : Bool) (o : EncryptedObject) (w : Written) → jwe_written true compact detach o ≡ Ok w → IsJweFrame compact detach o (all_texts w)
texts_are compact detach o w h = record {
  places = let r = round compact detach o w h [] (0 ∷ []) IsOctets-nil zero_octet refl in places_count w _ r.whole r.fills ∙ count detach;
  filled = λ ciphertext tag is tagged some.
      let r = round compact detach o w h ciphertext tag is tagged some in
      let text = is_filled w (in_places detach ciphertext (tag ∷ [])) r.whole
      (subst (λ values. Fills w values r.whole) (places_are detach ciphertext (tag ∷ [])) r.fills) in
      jwe_whole compact detach (sealed_with o ciphertext tag) r.whole r.written ∙ ap Ok (sym text);
}
  where
    zero_octet : IsOctets (0 ∷ [])
    zero_octet = first_or 0 [] (omega arith) IsOctets-nil

    count : (detach : Bool) → suc (length (in_places detach [] [] ++ base64url (0 ∷ []) ∷ [])) ≡ (if detach then 2 else 3)
    count true = refl
    count false = refl

pub is_jwe_frame : (compact detach : Bool) (o : EncryptedObject) (texts : List (List ℕ)) → jwe_frame compact detach o ≡ Ok texts
    → IsJweFrame compact detach o texts
is_jwe_frame compact detach o texts h =
    let w = steps (jwe_written true compact detach o) _ texts h in
    subst (IsJweFrame compact detach o) (same_answer _ texts w.2) (texts_are compact detach o w.0 w.1)
