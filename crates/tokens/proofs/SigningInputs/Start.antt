-- Signing inputs that are started one after another.
use Rattle.std.proofs.Common.{◌≡◌, ℕ, List, [], ◌∷◌, ◌++◌, map, codes, sym, ap, subst, ◌∙◌, append_assoc, append-nil}
use Rattle.prf.specs.HashFunction.{HashFunction}
use Rattle.keys.specs.Algorithms.{signature_hash}
use Rattle.tokens.specs.Signing.{Signer, protected_by}
use Rattle.tokens.specs.Code.SigningInputs.{InputStart, HoldEach, start_of}

module _ {S : Type 0} (has_taken : S → HashFunction → List ℕ → List ℕ → Type 0) where
  -- the inputs so far and those that are not yet started are all inputs
  pub record AreStarted (inputs : List S) (left all : List InputStart) : Type 0 where
    pub first : List InputStart
    pub parts : first ++ left ≡ all
    pub hold : HoldEach has_taken inputs first []

  -- One more input is started.
  pub hold_more : (inputs : List S) (starts : List InputStart) (x : S) (s : InputStart) → HoldEach has_taken inputs starts []
      → has_taken x (signature_hash s.alg) s.key (s.protected ++ codes ".")
      → HoldEach has_taken (inputs ++ (x ∷ [])) (starts ++ (s ∷ [])) []
  hold_more [] [] x s h here = (subst (has_taken x (signature_hash s.alg) s.key) (sym (append-nil (s.protected ++ codes "."))) here, tt)
  hold_more [] (other ∷ starts) x s h here = absurd h
  hold_more (i ∷ inputs) [] x s h here = absurd h
  hold_more (i ∷ inputs) (other ∷ starts) x s h here = (h.0, hold_more inputs starts x s h.1 here)

  -- The inputs of one more key or signature are started.
  pub more_started : (inputs new : List S) (left some rest all : List InputStart) → left ≡ some ++ rest
      → ((starts : List InputStart) → HoldEach has_taken inputs starts [] → HoldEach has_taken new (starts ++ some) [])
      → AreStarted inputs left all → AreStarted new rest all
  more_started inputs new left some rest all is pushes k = record {
    first = k.first ++ some;
    parts = append_assoc k.first some rest ∙ ap (λ l. k.first ++ l) (sym is) ∙ k.parts;
    hold = pushes k.first k.hold;
  }

  -- If no input is left, all are started.
  pub all_started : (inputs : List S) (left all : List InputStart) → left ≡ [] → AreStarted inputs left all → HoldEach has_taken inputs all []
  all_started inputs left all none k = subst (λ l. HoldEach has_taken inputs l [])
      (sym (append-nil k.first) ∙ ap (λ l. k.first ++ l) (sym none) ∙ k.parts) k.hold

  -- The inputs are those of the signers so far. The texts are the protected headers of the signers that are left.
  pub record AreStartedBy (inputs : List S) (all left : List Signer) (texts : List (List ℕ)) : Type 0 where
    pub started : AreStarted inputs (map start_of left) (map start_of all)
    pub theirs : texts ≡ map protected_by left

  pub one_started : (inputs more : List S) (all left rest : List Signer) (texts others : List (List ℕ)) (x : S) (s : Signer) (key protected text : List ℕ)
      → AreStartedBy inputs all left texts → left ≡ s ∷ rest → texts ≡ text ∷ others → key ≡ s.key.octets → protected ≡ text
      → has_taken x (signature_hash s.alg) key (protected ++ codes ".") → more ≡ inputs ++ (x ∷ []) → AreStartedBy more all rest others
  one_started inputs more all left rest texts others x s key protected text k signers their by_key is here appended =
      let both : text ∷ others ≡ protected_by s ∷ map protected_by rest = sym their ∙ k.theirs ∙ ap (map protected_by) signers in
      let head : text ≡ protected_by s = cc both in
      let tail : others ≡ map protected_by rest = cc both in
      let own : protected ≡ protected_by s = is ∙ head in
      let taken : has_taken x (signature_hash s.alg) s.key.octets (protected_by s ++ codes ".") =
      subst (has_taken x (signature_hash s.alg) s.key.octets) (ap (λ p. p ++ codes ".") own)
      (subst (λ k. has_taken x (signature_hash s.alg) k (protected ++ codes ".")) by_key here) in
      record {
        started = more_started inputs more (map start_of left) (start_of s ∷ []) (map start_of rest) (map start_of all) (ap (map start_of) signers)
            (λ starts h. subst (λ i. HoldEach has_taken i (starts ++ (start_of s ∷ [])) []) (sym appended) (hold_more inputs starts x (start_of s) h taken))
            k.started;
        theirs = tail;
      }
