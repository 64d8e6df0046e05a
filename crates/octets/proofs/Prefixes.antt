-- Lists that have grown by a beginning of a text.
use Rattle.std.proofs.Common.{◌≡◌, ℕ, ◌≤◌, List, [], ◌++◌, length, take, drop, subst, refl, sym, ◌∙◌, ap, arith, append_assoc, append-nil, length-append, length-take}
use Rattle.std.proofs.Math.Seq.{take-length}
use Rattle.std.proofs.lemmas.List.{take-append-le, take-append-drop}
use Rattle.octets.specs.Devices.{AppendsPrefixOf}

-- The whole text was appended.
pub AppendsPrefixOf-all : (text old new : List ℕ) → new ≡ old ++ text → AppendsPrefixOf text old new
AppendsPrefixOf-all text old new e = (
  omega (arith, ap length e, length-append old text),
  ap (take (length new)) (sym e) ∙ take-length new,
)

-- Nothing was appended, and the text is empty.
pub AppendsPrefixOf-none : (old new : List ℕ) → new ≡ old → AppendsPrefixOf [] old new
AppendsPrefixOf-none old new e = AppendsPrefixOf-all [] old new (e ∙ sym (append-nil old))

-- A beginning of the front of a text is a beginning of the text.
pub AppendsPrefixOf-front : (front rest old new : List ℕ) → AppendsPrefixOf front old new → AppendsPrefixOf (front ++ rest) old new
AppendsPrefixOf-front front rest old new grows =
    let e = grows.1 in
    let short : length new ≤ length (old ++ front) = omega (arith, ap length e, length-take (length new) (old ++ front)) in
    (grows.0, ap (take (length new)) (sym (append_assoc old front rest)) ∙ take-append-le (length new) (old ++ front) rest short ∙ e)

-- The first n octets of the text were appended.
pub AppendsPrefixOf-part : (text old new : List ℕ) (n : ℕ) → new ≡ old ++ take n text → AppendsPrefixOf text old new
AppendsPrefixOf-part text old new n e =
    subst (λ t. AppendsPrefixOf t old new) (take-append-drop n text)
    (AppendsPrefixOf-front (take n text) (drop n text) old new (AppendsPrefixOf-all (take n text) old new e))

-- Nothing of the text was appended.
pub AppendsPrefixOf-kept : (text old : List ℕ) → AppendsPrefixOf text old old
AppendsPrefixOf-kept text old = AppendsPrefixOf-front [] text old old (AppendsPrefixOf-none old old refl)
