-- A list that is processed from its front, part by part, in place.
use Rattle.std.proofs.Common.{◌≡◌, ℕ, ◌+◌, ◌-◌, ◌≤◌, List, ◌++◌, length, take, drop, sym, ap, ap₂, ◌∙◌, arith, append-nil, length-drop, take-append-drop}
use Rattle.std.proofs.Math.Seq.{take-append-add}
use Rattle.std.proofs.lemmas.List.{take-take, drop-take, drop-drop, drop_at, drop_all, length-take-le}
use borrow.Rule.Slice.PartMut.{put_mid}

pub take_split : (a n : ℕ) (xs : List ℕ) → take (a + n) xs ≡ take a xs ++ take n (drop a xs)
take_split a n xs = sym (take-append-drop a (take (a + n) xs)) ∙ ap₂ (λ x y. x ++ y) (take-take a (a + n) xs (omega arith)) (drop-take a n xs)

-- y overwrites everything from place a on
module _ (a n : ℕ) (xs y : List ℕ) (within : a ≤ length xs) where
  written : put_mid a (length xs - a) xs y ≡ take a xs ++ y
  written = ap (λ t. take a xs ++ (y ++ t)) (drop_all (length xs - a) (drop a xs) (omega (arith, length-drop a xs))) ∙ ap (λ t. take a xs ++ t) (append-nil y)

  front : length (take a xs) ≡ a
  front = length-take-le a xs within

  pub take_written : take (a + n) (put_mid a (length xs - a) xs y) ≡ take a xs ++ take n y
  take_written = ap (take (a + n)) written ∙ ap (λ m. take (m + n) (take a xs ++ y)) (sym front) ∙ take-append-add (take a xs) y n

  pub drop_written : drop (a + n) (put_mid a (length xs - a) xs y) ≡ drop n y
  drop_written = ap (drop (a + n)) written ∙ sym (drop-drop n a (take a xs ++ y)) ∙ ap (drop n) (drop_at (take a xs) y a front)
