-- Signing inputs that absorb a piece, one after another.
use Rattle.std.proofs.Common.{ℕ, zero, suc, ◌<◌, List, [], ◌∷◌, ◌++◌, length, codes, set, slice_index_or, subst, arith, append_assoc}
use Rattle.std.specs.Bool.{⊤}
use Rattle.prf.specs.HashFunction.{HashFunction}
use Rattle.keys.specs.Algorithms.{signature_hash}
use Rattle.tokens.specs.Code.SigningInputs.{InputStart, HoldEach}

module _ {S : Type 0} (has_taken : S → HashFunction → List ℕ → List ℕ → Type 0) where
  -- an input that has absorbed the protected header with its dot, and then a text
  abbrev Holds : S → InputStart → List ℕ → Type 0
  Holds x s text = has_taken x (signature_hash s.alg) s.key ((s.protected ++ codes ".") ++ text)

  -- every input has absorbed the text, and the first n of them the piece too
  abbrev pub HoldFirst : ℕ → List S → List InputStart → List ℕ → List ℕ → Type 0
  HoldFirst n [] [] text piece = ⊤
  HoldFirst n [] (s ∷ starts) text piece = ⊥
  HoldFirst n (x ∷ inputs) [] text piece = ⊥
  HoldFirst zero (x ∷ inputs) (s ∷ starts) text piece = Holds x s text × HoldFirst zero inputs starts text piece
  HoldFirst (suc n) (x ∷ inputs) (s ∷ starts) text piece = Holds x s (text ++ piece) × HoldFirst n inputs starts text piece

  -- At the start, no input has absorbed the piece.
  pub none_taken : (inputs : List S) (starts : List InputStart) (text piece : List ℕ) → HoldEach has_taken inputs starts text
      → HoldFirst zero inputs starts text piece
  none_taken [] [] text piece h = tt
  none_taken [] (s ∷ starts) text piece h = h
  none_taken (x ∷ inputs) [] text piece h = h
  none_taken (x ∷ inputs) (s ∷ starts) text piece h = (h.0, none_taken inputs starts text piece h.1)

  -- When the next input absorbs the piece, one more input has absorbed it.
  pub one_taken : (n : ℕ) (inputs : List S) (starts : List InputStart) (text piece : List ℕ) (other new : S) → n < length inputs
      → ((f : HashFunction) (key before : List ℕ) → has_taken (slice_index_or inputs n other) f key before → has_taken new f key (before ++ piece))
      → HoldFirst n inputs starts text piece → HoldFirst (suc n) (set inputs n new) starts text piece
  one_taken n [] starts text piece other new lt takes h = absurd (omega arith)
  one_taken zero (x ∷ inputs) [] text piece other new lt takes h = h
  one_taken (suc n) (x ∷ inputs) [] text piece other new lt takes h = h
  one_taken zero (x ∷ inputs) (s ∷ starts) text piece other new lt takes h =
      let front : List ℕ = s.protected ++ codes "." in
      (subst (has_taken new (signature_hash s.alg) s.key) (append_assoc front text piece) (takes (signature_hash s.alg) s.key (front ++ text) h.0), h.1)
  one_taken (suc n) (x ∷ inputs) (s ∷ starts) text piece other new lt takes h = (h.0, one_taken n inputs starts text piece other new (omega arith) takes h.1)

  -- At the end, all inputs have absorbed the piece.
  pub all_taken : (inputs : List S) (starts : List InputStart) (text piece : List ℕ) → HoldFirst (length inputs) inputs starts text piece
      → HoldEach has_taken inputs starts (text ++ piece)
  all_taken [] [] text piece h = tt
  all_taken [] (s ∷ starts) text piece h = h
  all_taken (x ∷ inputs) [] text piece h = h
  all_taken (x ∷ inputs) (s ∷ starts) text piece h = (h.0, all_taken inputs starts text piece h.1)
