-- Signatures that are written one after another, between the texts around them.
use Rattle.std.proofs.Common.{◌≡◌, ◌⊎◌, inl, inr, ℕ, ◌+◌, ◌-◌, ◌≤◌, suc, List, [], ◌∷◌, ◌++◌, length, take, get_or, map, codes, refl, sym, ap, subst, ◌∙◌, arith, append_assoc, length-append}
use Rattle.std.proofs.lemmas.List.{nil_from_length}
use Rattle.prf.specs.HashFunction.{HashFunction}
use Rattle.prf.specs.Hmac.{hmac}
use Rattle.octets.specs.Base64url.{base64url}
use Rattle.octets.specs.Devices.{AppendsPrefixOf}
use Rattle.octets.proofs.Lemmas.{AppendsPrefixOf-front, AppendsPrefixOf-part}
use Rattle.objects.specs.Code.Frames.{filled}
use Rattle.keys.specs.Algorithms.{signature_hash}
use Rattle.tokens.specs.Code.SigningInputs.{InputStart, HoldEach, signature_text}

-- the part of a text that is still to be written to an output
pub record IsLeft (left all old written : List ℕ) : Type 0 where
  pub grown : length old ≤ length written
  pub same : written ++ left ≡ old ++ all

-- If the next text is written only in part, a beginning of the whole text was written.
pub part_left : (next rest left all old written new : List ℕ) → IsLeft left all old written → left ≡ next ++ rest → AppendsPrefixOf next written new
    → AppendsPrefixOf all old new
part_left next rest left all old written new k is part =
    let more = AppendsPrefixOf-front next rest written new part in
    (omega (arith, k.grown, part.0), ap (take (length new)) (sym (ap (λ l. written ++ l) (sym is) ∙ k.same)) ∙ more.1)

-- If the next text is written, the rest is left.
less_left : (next rest left all old written new : List ℕ) → IsLeft left all old written → left ≡ next ++ rest → new ≡ written ++ next → IsLeft rest all old new
less_left next rest left all old written new k is e = record {
  grown = omega (arith, k.grown, ap length e, length-append written next);
  same = ap (λ l. l ++ rest) e ∙ append_assoc written next rest ∙ ap (λ l. written ++ l) (sym is) ∙ k.same;
}

-- If everything that is left is written, the whole text was written.
pub all_left : (left all old written new : List ℕ) → IsLeft left all old written → new ≡ written ++ left → new ≡ old ++ all
all_left left all old written new k e = e ∙ k.same

module _ {S : Type 0} (has_taken : S → HashFunction → List ℕ → List ℕ → Type 0) where
  -- the texts and the signatures of these inputs are still to be written
  pub record AreLeft (inputs : List S) (texts : List (List ℕ)) (text all old written : List ℕ) : Type 0 where
    pub starts : List InputStart
    pub hold : HoldEach has_taken inputs starts text
    pub left : IsLeft (filled texts (map (signature_text text) starts)) all old written

  -- the first of the inputs that are left
  record First (x : S) (inputs : List S) (starts : List InputStart) (text : List ℕ) : Type 0 where
    start : InputStart
    others : List InputStart
    is : starts ≡ start ∷ others
    here : has_taken x (signature_hash start.alg) start.key ((start.protected ++ codes ".") ++ text)
    later : HoldEach has_taken inputs others text

  first_of_all : (x : S) (inputs : List S) (starts : List InputStart) (text : List ℕ) → HoldEach has_taken (x ∷ inputs) starts text → First x inputs starts text
  first_of_all x inputs [] text h = absurd h
  first_of_all x inputs (s ∷ starts) text h = record { start = s; others = starts; is = refl; here = h.0; later = h.1 }

  module _ (inputs rest : List S) (x : S) (texts others : List (List ℕ)) (next text all old written : List ℕ) (k : AreLeft inputs texts text all old written)
      (is : inputs ≡ x ∷ rest) (their : texts ≡ next ∷ others) where
    first : First x rest k.starts text
    first = first_of_all x rest k.starts text (subst (λ i. HoldEach has_taken i k.starts text) is k.hold)

    later : List ℕ
    unfolding first
    later = filled others (map (signature_text text) first.others)

    whole : filled texts (map (signature_text text) k.starts) ≡ next ++ (signature_text text first.start ++ later)
    unfolding first later
    whole = ap (λ t. filled t (map (signature_text text) k.starts)) their ∙ ap (λ s. filled (next ∷ others) (map (signature_text text) s)) first.is

    -- If the text before a signature is written in part, a beginning of the whole text was written.
    pub text_refused : (new : List ℕ) (n : ℕ) → new ≡ written ++ take n next → AppendsPrefixOf all old new
    text_refused new n e = part_left next (signature_text text first.start ++ later) _ all old written new k.left whole
        (AppendsPrefixOf-part next written new n e)

    module _ (signature encoded : List ℕ) (signs : (f : HashFunction) (key taken : List ℕ) → has_taken x f key taken → signature ≡ hmac f key taken)
        (encodes : encoded ≡ base64url signature) (between : List ℕ) (so_far : between ≡ written ++ next) where
      signature_is : encoded ≡ signature_text text first.start
      unfolding first
      signature_is = encodes ∙ ap base64url (signs (signature_hash first.start.alg) first.start.key ((first.start.protected ++ codes ".") ++ text) first.here)

      after_text : IsLeft (encoded ++ later) all old between
      after_text = less_left next (encoded ++ later) _ all old written between k.left (whole ∙ ap (λ s. next ++ (s ++ later)) (sym signature_is)) so_far

      -- If a signature is written in part, a beginning of the whole text was written.
      pub signature_refused : (new : List ℕ) (n : ℕ) → new ≡ between ++ take n encoded → AppendsPrefixOf all old new
      signature_refused new n e = part_left encoded later _ all old between new after_text refl (AppendsPrefixOf-part encoded between new n e)

      -- If both are written, the other texts and signatures are left.
      pub one_written : (new : List ℕ) → new ≡ between ++ encoded → AreLeft rest others text all old new
      unfolding first later
      one_written new e = record {
        starts = first.others;
        hold = first.later;
        left = less_left encoded later _ all old between new after_text refl e;
      }

  none_of_none : (starts : List InputStart) (text : List ℕ) → HoldEach has_taken [] starts text → starts ≡ []
  none_of_none [] text h = refl
  none_of_none (s ∷ starts) text h = absurd h

  -- If no input is left, only the last text is left.
  pub last_left : (inputs : List S) (texts : List (List ℕ)) (last text all old written : List ℕ) → AreLeft inputs texts text all old written → inputs ≡ []
      → texts ≡ last ∷ [] → IsLeft last all old written
  last_left inputs texts last text all old written k none their =
      let no_starts : k.starts ≡ [] = none_of_none k.starts text (subst (λ i. HoldEach has_taken i k.starts text) none k.hold) in
      let is : filled texts (map (signature_text text) k.starts) ≡ last =
      ap (λ t. filled t (map (signature_text text) k.starts)) their ∙ ap (λ s. filled (last ∷ []) (map (signature_text text) s)) no_starts in
      subst (λ l. IsLeft l all old written) is k.left

-- If one element of a list is left, it is the last one.
pub is_last : {A : Type 0} (all front rest : List A) (other : A) → all ≡ front ++ rest → length rest ≡ 1 → rest ≡ get_or all (length all - 1) other ∷ []
is_last all front [] other e one = absurd (omega (arith, one))
is_last all front (x ∷ []) other e one = ap (λ y. y ∷ []) (sym (ap (λ l. get_or l (length l - 1) other) e ∙ at_end front x other))
  where
    at_end : {A : Type 0} (front : List A) (x other : A) → get_or (front ++ (x ∷ [])) (length (front ++ (x ∷ [])) - 1) other ≡ x
    at_end [] x other = refl
    at_end (y ∷ front) x other =
        let long : length ((y ∷ front) ++ (x ∷ [])) - 1 ≡ suc (length (front ++ (x ∷ [])) - 1) = omega (arith, length-append front (x ∷ [])) in
        ap (λ n. get_or ((y ∷ front) ++ (x ∷ [])) n other) long ∙ at_end front x other
is_last all front (x ∷ (y ∷ rest)) other e one = absurd (omega (arith, one))

-- If no input or no text is left, there is no input left, and one text.
pub no_more : {X Y : Type 0} (n : ℕ) (inputs : List X) (texts : List Y) → length texts ≡ 1 + length inputs → n ≡ length inputs → (n ≡ 0) ⊎ (length texts ≡ 0)
    → (inputs ≡ []) × (length texts ≡ 1)
no_more n inputs texts places count (inl none) = (nil_from_length inputs (omega (arith, count, none)), omega (arith, places, count, none))
no_more n inputs texts places count (inr none) = absurd (omega (arith, places, none))
