-- A signed payload fills the frame of its object.
use Rattle.std.proofs.Common.{◌≡◌, ℕ, ◌+◌, Bool, true, false, List, [], ◌∷◌, ◌++◌, length, take, drop, get_or, map, Result, Ok, refl, sym, ap, ◌∙◌, subst, arith}
use Rattle.std.proofs.lemmas.List.{take_all, take-append-le, length-map}
use Rattle.octets.specs.declared.refusal.Refusal.{Refusal}
use Rattle.octets.specs.Base64url.{base64url, whole_groups}
use Rattle.octets.specs.Encoding.{encoding}
use Rattle.octets.specs.Plan.{OutputTexts, Plan}
use Rattle.octets.specs.Code.Streams.{as_it_is}
use Rattle.octets.proofs.Lemmas.{encoding_grows, as_it_is_grows, same_answer}
use Rattle.prf.specs.HashFunction.{HashFunction}
use Rattle.keys.specs.Limits.{limits}
use Rattle.objects.specs.Code.Frames.{filled}
use Rattle.tokens.specs.Code.Framing.{IsFraming, FillsFrame, all_in}
use Rattle.tokens.specs.Signing.{plan_by}
use Rattle.tokens.specs.Code.SigningInputs.{InputStart, HoldEach, GiveSignatures, IsFramed, signature_text, start_of}
use Rattle.tokens.proofs.Signing.Frames.{texts_are, unsigned_count, whole_is, text_before_is}

-- A list that is not empty is its first element and the others.
pub first_and_others : {A : Type 0} (bytes : A → List ℕ) (items : List A) (x : A) (n : ℕ) (first : List ℕ) → length (map bytes items) ≡ 2 + n
    → x ≡ get_or items 0 x → first ≡ bytes x
    → map bytes items ≡ first ∷ map bytes (drop 1 items)
first_and_others bytes [] x n first long is same = absurd (omega (arith, long))
first_and_others bytes (y ∷ items) x n first long is same = ap (λ t. t ∷ map bytes items) (sym (same ∙ ap bytes is))

-- If a whole vector is written back, all of it is the new content.
pub written_back : {A : Type 0} (new items : List A) (n : ℕ) → n ≡ length items → length new ≡ length items → take n (new ++ drop (length new) items) ≡ new
written_back new items n long same = take-append-le n new (drop (length new) items) (omega (arith, long, same)) ∙ take_all n new (omega (arith, long, same))

module _ {S : Type 0} (has_taken : S → HashFunction → List ℕ → List ℕ → Type 0) (compact : Bool) (plan : Result (Plan OutputTexts) Refusal) (inputs : List S)
    (texts : List (List ℕ)) where
  -- the texts of the signatures of a payload
  abbrev pub signatures_of : (detach : Bool) → IsFramed has_taken compact detach plan inputs texts → List ℕ → List (List ℕ)
  signatures_of detach f p = map (signature_text (base64url p)) (map start_of f.signing.signers)

  count : (detach : Bool) (f : IsFramed has_taken compact detach plan inputs texts) (p : List ℕ)
      → length f.object.signatures ≡ length (signatures_of detach f p)
  count detach f p =
      unsigned_count f.signing f.object f.made ∙ sym (length-map f.signing.signers start_of)
      ∙ sym (length-map (map start_of f.signing.signers) (signature_text (base64url p)))

  -- The payload's text is written inside the texts.
  pub inside_framing : (f : IsFramed has_taken compact false plan inputs texts)
      → IsFraming false texts encoding (signatures_of false f) (plan_by limits compact false f.signing)
  inside_framing f = record {
    grows = encoding_grows;
    places = λ p. omega (arith, f.frame.places, count false f p);
    whole = λ p text octets h.
        whole_is compact false f.signing f.object texts f.made f.frame p octets
        ∙ ap (λ values. Ok (record { text = filled texts (base64url p ∷ values); content = [] })) (sym (texts_are p f.signing.signers))
        ∙ ap (λ t. Ok (all_in false texts t (signatures_of false f p))) (same_answer (base64url p) text h);
    refused = λ p e h. cc h;
    fixed = λ q. ap (λ t. record { text = t ++ base64url (whole_groups q); content = [] }) (text_before_is compact f.signing f.object texts f.made f.frame);
  }

  -- The payload is written next to the texts.
  pub beside_framing : (f : IsFramed has_taken compact true plan inputs texts)
      → IsFraming true texts as_it_is (signatures_of true f) (plan_by limits compact true f.signing)
  beside_framing f = record {
    grows = as_it_is_grows;
    places = λ p. omega (arith, f.frame.places, count true f p);
    whole = λ p text octets h.
        whole_is compact true f.signing f.object texts f.made f.frame p octets
        ∙ ap (λ values. Ok (record { text = filled texts values; content = p })) (sym (texts_are p f.signing.signers))
        ∙ ap (λ t. Ok (all_in true texts t (signatures_of true f p))) (same_answer p text h);
    refused = λ p e h. cc h;
    fixed = λ q. refl;
  }

  pub fills_inside : {X R : Type 0} (is_fed : X → List InputStart → List ℕ → Type 0) (items : R → List S) (transform : X) (given : List (List ℕ))
      (f : IsFramed has_taken compact false plan inputs texts)
      → is_fed transform (map start_of f.signing.signers) [] → given ≡ texts
      → FillsFrame is_fed (λ starts. encoding) (λ rest starts p. HoldEach has_taken (items rest) starts (base64url p))
      (λ rest values. GiveSignatures has_taken (items rest) values) false transform given (plan_by limits compact false f.signing)
  fills_inside is_fed items transform given f fed same = record {
    job = map start_of f.signing.signers;
    values = signatures_of false f;
    fed = fed;
    left = λ rest p held. record { starts = map start_of f.signing.signers; text = base64url p; hold = held; are = refl };
    framing = subst (λ t. IsFraming false t encoding (signatures_of false f) (plan_by limits compact false f.signing)) (sym same) (inside_framing f);
  }

  pub fills_beside : {X R : Type 0} (is_fed : X → List InputStart → List ℕ → Type 0) (items : R → List S) (transform : X) (given : List (List ℕ))
      (f : IsFramed has_taken compact true plan inputs texts)
      → is_fed transform (map start_of f.signing.signers) [] → given ≡ texts
      → FillsFrame is_fed (λ starts. as_it_is) (λ rest starts p. HoldEach has_taken (items rest) starts (base64url p))
      (λ rest values. GiveSignatures has_taken (items rest) values) true transform given (plan_by limits compact true f.signing)
  fills_beside is_fed items transform given f fed same = record {
    job = map start_of f.signing.signers;
    values = signatures_of true f;
    fed = fed;
    left = λ rest p held. record { starts = map start_of f.signing.signers; text = base64url p; hold = held; are = refl };
    framing = subst (λ t. IsFraming true t as_it_is (signatures_of true f) (plan_by limits compact true f.signing)) (sym same) (beside_framing f);
  }
