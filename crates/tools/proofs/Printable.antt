-- Texts in printable ASCII.
use Rattle.std.proofs.Common.{◌≡◌, ◌∙◌, ℕ, List, [], ◌∷◌, ◌++◌, codes, Result, Ok, Err, OnOk, refl, ap, sym, append_assoc}
use Rattle.tools.specs.Printing.{printable, printable_octet, printed}

pub printable-append : (xs ys : List ℕ) → printable (xs ++ ys) ≡ printable xs ++ printable ys
printable-append [] ys = refl
printable-append (x ∷ xs) ys = ap (λ rest. printable_octet x ++ rest) (printable-append xs ys) ∙ sym (append_assoc (printable_octet x) (printable xs) (printable ys))

pub beside_is : (line target : List ℕ) → (line ++ printable target) ++ codes ".new" ≡ line ++ printable (target ++ codes ".new")
beside_is line target = append_assoc line (printable target) (codes ".new") ∙ ap (λ xs. line ++ xs) (sym (printable-append target (codes ".new")))

-- ---- lines one after another

pub printed-append : (xs ys : List (List ℕ)) → printed (xs ++ ys) ≡ printed xs ++ printed ys
printed-append [] ys = refl
printed-append (x ∷ xs) ys = ap (λ rest. printable x ++ 10 ∷ rest) (printed-append xs ys) ∙ sym (append_assoc (printable x) (10 ∷ printed xs) (printed ys))

pub printed_then : (out : List ℕ) (xs ys : List (List ℕ)) → (out ++ printed xs) ++ printed ys ≡ out ++ printed (xs ++ ys)
printed_then out xs ys = append_assoc out (printed xs) (printed ys) ∙ ap (λ rest. out ++ rest) (sym (printed-append xs ys))

pub printed_both : (out mid new : List ℕ) (xs ys : List (List ℕ)) → mid ≡ out ++ printed xs → new ≡ mid ++ printed ys → new ≡ out ++ printed (xs ++ ys)
printed_both out mid new xs ys first second = second ∙ ap (λ front. front ++ printed ys) first ∙ printed_then out xs ys

-- So it is if the second step may fail.
pub printed_next : {E : Type 0} (r : Result (Unit {0}) E) (out mid new : List ℕ) (xs ys : List (List ℕ)) → mid ≡ out ++ printed xs
    → OnOk r (new ≡ mid ++ printed ys) → OnOk r (new ≡ out ++ printed (xs ++ ys))
printed_next (Ok done) out mid new xs ys first second = printed_both out mid new xs ys first second
printed_next (Err e) out mid new xs ys first second = tt
