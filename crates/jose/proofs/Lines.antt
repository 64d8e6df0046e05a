-- Texts that were written in part.
use Rattle.std.proofs.Common.{◌≡◌, ℕ, List, ◌++◌, length, take, drop, sym, ap, ◌∙◌, append_assoc, length-append, arith}
use Rattle.std.proofs.Math.Seq.{take-append_seam}
use Rattle.std.proofs.lemmas.List.{take-append-drop}
use Rattle.octets.specs.Devices.{AppendsPrefixOf}

-- A beginning of the text was written.
pub front_written : (text front back old new : List ℕ) → text ≡ front ++ back → new ≡ old ++ front → AppendsPrefixOf text old new
front_written text front back old new cut e = (
  omega (arith, length-append old front, ap length e),
  ap (λ n. take n (old ++ text)) (ap length e) ∙ ap (λ l. take (length (old ++ front)) (old ++ l)) cut
      ∙ ap (take (length (old ++ front))) (sym (append_assoc old front back)) ∙ take-append_seam (old ++ front) back ∙ sym e,
)

-- A text may be cut inside its second piece.
pub cut_within : (first second rest : List ℕ) (n : ℕ) → first ++ (second ++ rest) ≡ (first ++ take n second) ++ (drop n second ++ rest)
cut_within first second rest n =
    ap (λ l. first ++ (l ++ rest)) (sym (take-append-drop n second)) ∙ ap (λ l. first ++ l) (append_assoc (take n second) (drop n second) rest)
    ∙ sym (append_assoc first (take n second) (drop n second ++ rest))
