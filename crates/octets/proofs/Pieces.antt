-- Lists that are read or written piece by piece.
use Rattle.std.proofs.Common.{◌≡◌, ℕ, ◌+◌, ◌-◌, ◌≤◌, List, ◌++◌, length, take, drop, refl, sym, ◌∙◌, ap, arith, append_assoc, length-append, length-drop}
use Rattle.std.proofs.Math.Seq.{take-add, take-append-add, take-append_seam, take-length}
use Rattle.std.proofs.lemmas.List.{take-append-le, take-append-drop, drop-append-le, length-take-le}
use Rattle.std.proofs.lemmas.Slice.{put_mid-paste}
use borrow.Rule.Slice.PartMut.{put_mid}

-- The next n elements of a list were copied to the front of the cells.
pub take_copied : (at n : ℕ) (xs copied rest : List ℕ) → copied ≡ take n (drop at xs) → length copied ≡ n
    → take (at + n) xs ≡ take at xs ++ take n (copied ++ rest)
take_copied at n xs copied rest e len =
    take-add at n xs ∙ ap (λ q. take at xs ++ q) (sym e ∙ sym (take-append_seam copied rest) ∙ ap (λ m. take m (copied ++ rest)) len)

-- After some elements of a list, n more were consumed.
pub taken_more : (all before now xs : List ℕ) (f n : ℕ) → before ≡ all ++ take f xs → now ≡ before ++ take n (drop f xs) → now ≡ all ++ take (f + n) xs
taken_more all before now xs f n old new =
    new ∙ ap (λ q. q ++ take n (drop f xs)) old ∙ append_assoc all (take f xs) (take n (drop f xs)) ∙ ap (λ q. all ++ q) (sym (take-add f n xs))

-- After f cells, n more are filled.
pub take-filled : (f k n : ℕ) (xs ys : List ℕ) → f ≤ length xs → length ys ≡ k → n ≤ length ys
    → take (f + n) (put_mid f k xs ys) ≡ take f xs ++ take n ys
take-filled f k n xs ys in_range len le =
    let front : length (take f xs) ≡ f = length-take-le f xs in_range in
    let whole : take k ys ≡ ys = ap (λ m. take m ys) (sym len) ∙ take-length ys in
    ap (take (f + n)) (put_mid-paste f k xs ys ys k refl refl (sym len))
    ∙ ap (λ q. take (f + n) (take f xs ++ q ++ drop (f + k) xs)) whole
    ∙ take-append-le (f + n) (take f xs ++ ys) (drop (f + k) xs) (omega (arith, length-append (take f xs) ys, front))
    ∙ ap (λ m. take (m + n) (take f xs ++ ys)) (sym front) ∙ take-append-add (take f xs) ys n

-- The number of cells stays the same.
pub length-filled : (f k : ℕ) (xs ys : List ℕ) → f ≤ length xs → k ≡ length xs - f → length ys ≡ k → length (put_mid f k xs ys) ≡ length xs
length-filled f k xs ys in_range rest len =
    ap length (put_mid-paste f k xs ys ys k refl refl (sym len))
    ∙ length-append (take f xs ++ take k ys) (drop (f + k) xs)
    ∙ omega (arith, length-append (take f xs) (take k ys), length-take-le f xs in_range, length-take-le k ys (omega arith), length-drop (f + k) xs)

-- Writing octets to the front of a part leaves the elements after them as they were in the whole.
pub drop-part : (n k : ℕ) (put whole : List ℕ) → n ≤ length put → n ≤ length (take k whole) → drop n put ≡ drop n (take k whole)
    → drop n (put ++ drop k whole) ≡ drop n whole
drop-part n k put whole within fits same =
    drop-append-le n put (drop k whole) within ∙ ap (λ l. l ++ drop k whole) same ∙ sym (drop-append-le n (take k whole) (drop k whole) fits)
    ∙ ap (drop n) (take-append-drop k whole)
