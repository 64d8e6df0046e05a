-- The texts around the payload and the signatures of a signed object.
use Rattle.std.proofs.Common.{◌≡◌, ℕ, suc, ◌+◌, List, [], ◌∷◌, ◌++◌, length, map, codes, Bool, true, false, if◌then◌else◌, None, Ok, refl, sym, ap, ◌∙◌, subst, arith, append_assoc, append-nil}
use Rattle.std.proofs.lemmas.List.{length-map}
use Rattle.octets.specs.declared.refusal.Refusal.TheVariants.{NotCompact}
use Rattle.std.specs.List.{AllByRecursion}
use Rattle.octets.specs.Base64url.{base64url}
use Rattle.octets.specs.Octets.{IsOctets}
use Rattle.octets.specs.Outcomes.{needs}
use Rattle.objects.specs.Code.Frames.{in_places, with_octets, jws_frame, signed_with, IsJwsFrame}
use Rattle.objects.specs.Jws.{Signature, signature_parts_of, SignedObject, parts_of, is_compact}
use Rattle.objects.specs.Code.Writing.{Written, all_texts, nothing_written, inside, with_text, with_items, with_place}
use Rattle.objects.specs.Code.JwsWriting.{with_signature, with_signatures, with_general, with_compact, jws_json, jws_written}
use Rattle.objects.proofs.JwsWritten.{jws_whole}
use Rattle.objects.proofs.Places.{Fills, is_filled, places_count, fills_nothing, fills_pushed, fills_closed, fills_opened, fills_separated, fills_named, fills_text, fills_header, fills_place, fills_content, fills_place_part, fills_content_part, places_are, texts_count}
use Rattle.octets.proofs.Lemmas.{IsOctets-nil, steps, passed, same_answer}

-- ---- the JSON texts around a payload and signatures

-- The members after the payload leave a place for the signature, which the octets fill.
ends_fill : (s : Signature) (octets : List ℕ) (w : Written) (values : List (List ℕ)) (v : Written) → IsOctets octets → Fills w values v
    → Fills (with_place (codes "signature") s.signature (with_text (codes "protected") s.protected w)) (values ++ base64url octets ∷ [])
    (with_place (codes "signature") octets (with_text (codes "protected") s.protected v))
ends_fill s octets w values v is f = fills_place (codes "signature") s.signature octets _ values _ is (fills_text (codes "protected") s.protected w values v f)

items_fill : (ss : List Signature) (octets : List (List ℕ)) (w : Written) (values : List (List ℕ)) (v : Written) → AllByRecursion IsOctets octets
    → length octets ≡ length ss → Fills w values v
    → Fills (with_items (with_signature None) (map signature_parts_of ss) w) (values ++ map base64url octets)
    (with_items (with_signature None) (map signature_parts_of (with_octets ss octets)) v)
items_fill [] [] w values v all h f = subst (λ values. Fills w values v) (sym (append-nil values)) f
items_fill [] (x ∷ octets) w values v all h f = absurd (omega (arith, h))
items_fill (s ∷ ss) [] w values v all h f = absurd (omega (arith, h))
items_fill (s ∷ ss) (x ∷ octets) w values v all h f =
    let start = fills_opened (codes "{") _ values _ (fills_separated w values v f) in
    let one = fills_closed (codes "}") _ _ _ (ends_fill s x _ values _ all.0 (fills_header (codes "header") s.header _ values _ start)) in
    subst (λ values. Fills (with_items (with_signature None) (map signature_parts_of (s ∷ ss)) w) values
    (with_items (with_signature None) (map signature_parts_of (with_octets (s ∷ ss) (x ∷ octets))) v))
    (append_assoc values (base64url x ∷ []) (map base64url octets)) (items_fill ss octets _ (values ++ base64url x ∷ []) _ all.1 (omega (arith, h)) one)

general_fills : (detach : Bool) (own payload : List ℕ) (ss : List Signature) (octets : List (List ℕ)) (w v : Written) → IsOctets payload
    → AllByRecursion IsOctets octets → length octets ≡ length ss → Fills w [] v
    → Fills (with_general (inside detach own) (map signature_parts_of ss) w) (in_places detach payload [] ++ map base64url octets)
    (with_general (inside detach payload) (map signature_parts_of (with_octets ss octets)) v)
general_fills detach own payload ss octets w v is all h f =
    let first : List (List ℕ) = in_places detach payload [] in
    let name = fills_named (codes "signatures") _ first _ (fills_content (codes "payload") detach own payload w v is f) in
    fills_closed (codes "]") _ _ _ (items_fill ss octets _ first _ all h (fills_opened (codes "[") _ first _ name))

signatures_fill : (detach : Bool) (own payload : List ℕ) (ss : List Signature) (octets : List (List ℕ)) (w v : Written) → IsOctets payload
    → AllByRecursion IsOctets octets → length octets ≡ length ss → Fills w [] v
    → Fills (with_signatures (inside detach own) (map signature_parts_of ss) w) (in_places detach payload [] ++ map base64url octets)
    (with_signatures (inside detach payload) (map signature_parts_of (with_octets ss octets)) v)
signatures_fill detach own payload [] octets w v is all h f = general_fills detach own payload [] octets w v is all h f
signatures_fill detach own payload (s ∷ []) [] w v is all h f = absurd (omega (arith, h))
signatures_fill detach own payload (s ∷ []) (x ∷ []) w v is all h f =
    ends_fill s x _ (in_places detach payload []) _ all.0
    (fills_content (codes "payload") detach own payload _ _ is (fills_header (codes "header") s.header w [] v f))
signatures_fill detach own payload (s ∷ []) (x ∷ (y ∷ octets)) w v is all h f = absurd (omega (arith, h))
signatures_fill detach own payload (s ∷ (t ∷ rest)) [] w v is all h f = absurd (omega (arith, h))
signatures_fill detach own payload (s ∷ (t ∷ rest)) (x ∷ []) w v is all h f = absurd (omega (arith, h))
signatures_fill detach own payload (s ∷ (t ∷ rest)) (x ∷ (y ∷ octets)) w v is all h f =
    general_fills detach own payload (s ∷ (t ∷ rest)) (x ∷ (y ∷ octets)) w v is all h f

-- ---- in either form

-- Filled with a payload and signatures, the texts are those of the object with these in place of its own.
record IsRound (compact detach : Bool) (o : SignedObject) (w : Written) (payload : List ℕ) (octets : List (List ℕ)) : Type 0 where
  whole : Written
  written : jws_written false compact detach (signed_with o payload octets) ≡ Ok whole
  fills : Fills w (in_places detach payload [] ++ map base64url octets) whole

compact_round : (detach : Bool) (o : SignedObject) (payload : List ℕ) (octets : List (List ℕ)) (ss : List Signature) → o.signatures ≡ ss → is_compact ss ≡ true
    → length octets ≡ length ss
    → IsRound true detach o (with_compact (inside detach o.payload) (map signature_parts_of ss) (nothing_written true)) payload octets
compact_round detach o payload octets [] is fits h = cc fits
compact_round detach o payload [] (s ∷ []) is fits h = absurd (omega (arith, h))
compact_round detach o payload (x ∷ []) (s ∷ []) is fits h = record {
  whole = with_compact (inside detach payload) (record { protected = s.protected; header = s.header; signature = x } ∷ []) (nothing_written false);
  written = rw (is, fits) refl;
  fills = fills_place_part s.signature x _ (in_places detach payload []) _
      (fills_content_part detach o.payload payload _ _ (fills_pushed s.protected _ [] _ fills_nothing));
}
compact_round detach o payload (x ∷ (y ∷ octets)) (s ∷ []) is fits h = absurd (omega (arith, h))
compact_round detach o payload octets (s ∷ (other ∷ rest)) is fits h = cc fits

round : (compact detach : Bool) (o : SignedObject) (w : Written) → jws_written true compact detach o ≡ Ok w → (payload : List ℕ) (octets : List (List ℕ))
    → IsOctets payload → AllByRecursion IsOctets octets → length octets ≡ length o.signatures → IsRound compact detach o w payload octets
round true detach o w h payload octets is all long =
    let fits = steps (needs (is_compact o.signatures) NotCompact) _ w h in
    subst (λ w. IsRound true detach o w payload octets) (same_answer _ w fits.2)
    (compact_round detach o payload octets o.signatures refl (passed _ NotCompact fits.0 fits.1) long)
round false detach o w h payload octets is all long =
    subst (λ w. IsRound false detach o w payload octets) (same_answer _ w h)
    (record {
      whole = jws_json false detach (parts_of (signed_with o payload octets));
      written = refl;
      fills = fills_closed (codes "}") _ _ _ (signatures_fill detach o.payload payload o.signatures octets _ _ is all long
          (fills_opened (codes "{") _ [] _ fills_nothing));
    })

-- The texts of the object are a frame for a payload and signatures.
texts_are : (compact detach : Bool) (o : SignedObject) (w : Written) → jws_written true compact detach o ≡ Ok w → IsJwsFrame compact detach o (all_texts w)
texts_are compact detach o w h = record {
  places =
      let none : List (List ℕ) = map (λ (s : Signature). let empty : List ℕ = [] in empty) o.signatures in
      let count : length none ≡ length o.signatures = length-map o.signatures (λ (s : Signature). []) in
      let r = round compact detach o w h [] none IsOctets-nil (all_empty o.signatures) count in
      places_count w _ r.whole r.fills ∙ ap (λ values. suc (length values)) (places_are detach [] none) ∙ texts_count detach [] none
      ∙ ap (λ n. (if detach then 1 else 2) + n) count;
  filled = λ payload octets is all long.
      let r = round compact detach o w h payload octets is all long in
      let text = is_filled w (in_places detach payload octets) r.whole (subst (λ values. Fills w values r.whole) (places_are detach payload octets) r.fills) in
      jws_whole compact detach (signed_with o payload octets) r.whole r.written ∙ ap Ok (sym text);
}
  where
    all_empty : (ss : List Signature) → AllByRecursion IsOctets (map (λ (s : Signature). []) ss)
    all_empty [] = tt
    all_empty (s ∷ ss) = (IsOctets-nil, all_empty ss)

pub is_jws_frame : (compact detach : Bool) (o : SignedObject) (texts : List (List ℕ)) → jws_frame compact detach o ≡ Ok texts
    → IsJwsFrame compact detach o texts
is_jws_frame compact detach o texts h =
    let w = steps (jws_written true compact detach o) _ texts h in
    subst (IsJwsFrame compact detach o) (same_answer _ texts w.2) (texts_are compact detach o w.0 w.1)
