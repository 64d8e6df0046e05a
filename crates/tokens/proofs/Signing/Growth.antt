-- The plan of signing grows with the payload.
use Rattle.std.proofs.Common.{◌≡◌, ℕ, Bool, true, false, List, [], ◌++◌, map, Ok, refl, sym, ◌∙◌, subst, arith}
use Rattle.octets.specs.Base64url.{base64url, whole_groups}
use Rattle.octets.specs.Octets.{IsOctets}
use Rattle.octets.specs.Plan.{OutputTexts, Begins}
use Rattle.keys.specs.Limits.{limits}
use Rattle.objects.specs.Code.Frames.{filled, in_places, IsJwsFrame}
use Rattle.objects.specs.Jws.{SignedObject}
use Rattle.tokens.specs.Code.SigningInputs.{unsigned_by}
use Rattle.objects.proofs.Lemmas.{is_jws_frame}
use Rattle.octets.proofs.Lemmas.{same_answer, begins_behind}
use Rattle.tokens.specs.Signing.{Signing, text_before, text_fixed, plan_by, SigningGrows}
use Rattle.tokens.proofs.Beginnings.{empty_begins, groups_grow, frame_begins, handed_out_begins, BothBegin, both_grow_by_beginnings}
use Rattle.tokens.proofs.Signing.Frames.{octets_by, whole_is, text_before_is, has_frame}

-- The fixed part of the text grows with the payload.
text_goes_on : (compact detach : Bool) (s : Signing) (p q : List ℕ)
    → Begins (text_fixed limits compact detach s p) (text_fixed limits compact detach s (p ++ q))
text_goes_on compact true s p q = empty_begins []
text_goes_on compact false s p q = begins_behind (text_before limits compact s) _ _ (groups_grow p (p ++ q) (record { rest = q; continues = refl }))

-- The fixed part of the text begins the frame that is filled with the payload and the signatures.
text_begins : (compact detach : Bool) (s : Signing) (o : SignedObject) (texts : List (List ℕ)) (p q : List ℕ) (signatures : List (List ℕ))
    → unsigned_by limits s ≡ Ok o
    → IsJwsFrame compact detach o texts → Begins (text_fixed limits compact detach s p) (filled texts (in_places detach (p ++ q) signatures))
text_begins compact true s o texts p q signatures made frame = empty_begins _
text_begins compact false s o texts p q signatures made frame =
    subst (λ t. Begins (t ++ base64url (whole_groups p)) (filled texts (in_places false (p ++ q) signatures)))
    (sym (text_before_is compact s o texts made frame))
    (frame_begins texts p (p ++ q) signatures (omega (arith, frame.places)) (record { rest = q; continues = refl }))

-- On both outputs, the fixed part grows with the payload.
both_go_on : (compact detach : Bool) (s : Signing) (p q : List ℕ)
    → BothBegin ((plan_by limits compact detach s).fixed p) ((plan_by limits compact detach s).fixed (p ++ q))
both_go_on compact detach s p q = record {
  text = text_goes_on compact detach s p q;
  content = handed_out_begins detach p (p ++ q) (record { rest = q; continues = refl });
}

-- On both outputs, the fixed part begins everything that is written.
both_begin_all : (compact detach : Bool) (s : Signing) (p q : List ℕ) (written : OutputTexts) → IsOctets (p ++ q)
    → (plan_by limits compact detach s).whole (p ++ q) ≡ Ok written
    → BothBegin ((plan_by limits compact detach s).fixed p) written
both_begin_all compact detach s p q written octets h =
    let has = has_frame compact detach s (p ++ q) written h in
    let o = has.0 in
    let texts = has.1 in
    let frame : IsJwsFrame compact detach o texts = is_jws_frame compact detach o texts has.3 in
    subst (BothBegin ((plan_by limits compact detach s).fixed p))
    (same_answer _ written (sym (whole_is compact detach s o texts has.2 frame (p ++ q) octets) ∙ h))
    (record {
      text = text_begins compact detach s o texts p q (map (octets_by (p ++ q)) s.signers) has.2 frame;
      content = handed_out_begins detach p (p ++ q) (record { rest = q; continues = refl });
    })

-- Every plan of signing grows with its payload.
pub signing_grows : SigningGrows
signing_grows compact detach s = both_grow_by_beginnings (plan_by limits compact detach s) (both_go_on compact detach s) (both_begin_all compact detach s)
