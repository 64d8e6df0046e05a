-- The padding of a text.
use Rattle.std.proofs.Common.{◌≡◌, ℕ, suc, ◌+◌, ◌-◌, ◌*◌, ◌/◌, ◌%◌, ◌<◌, ◌≤◌, List, ◌++◌, length, take, drop, replicate, slice_index, sym, ap, subst, ◌∙◌, arith, refl, length-append, length-take, length-drop, ⊎_elim, get_or-take, get_or-drop, take-append-drop, get_or-append-add}
use Rattle.std.proofs.lemmas.List.{take_at, ext_get_or, get_or_past, get_or_append_left, get_or-replicate, length-replicate}
use Rattle.std.proofs.lemmas.Bool.{cases_lt}
use Rattle.octets.specs.Octets.{IsOctets}
use Rattle.modes.specs.Cbc.{block, pad}
use Rattle.modes.specs.Code.Opening.{IsPadded}

-- the number of octets that are added
abbrev pub added : List ℕ → ℕ
added p = 16 - length p % 16

pub length-pad : (p : List ℕ) → length (pad p) ≡ 16 * suc (length p / 16)
unfolding pad
length-pad p = length-append p (replicate (added p) (added p)) ∙ omega (arith, length-replicate (added p) (added p))

behind : (p : List ℕ) (i : ℕ) → length p ≤ i → i < length (pad p) → slice_index (pad p) i ≡ added p
unfolding pad
behind p i h l =
    ap (slice_index (pad p)) (let e : i ≡ length p + (i - length p) = omega arith in e)
    ∙ get_or-append-add p (replicate (added p) (added p)) (i - length p) 0
    ∙ get_or-replicate (added p) (i - length p) (added p) 0
    (omega (arith, length-append p (replicate (added p) (added p)), length-replicate (added p) (added p)))

pub pad_octets : (p : List ℕ) → IsOctets p → IsOctets (pad p)
unfolding pad
pad_octets p small i = ⊎_elim
    (λ l. subst (λ v. v < 256) (sym (get_or_append_left p (replicate (added p) (added p)) 0 i l)) (small i))
    (λ l. ⊎_elim
    (λ m. subst (λ v. v < 256) (sym (behind p i l m)) (let g : added p < 256 = omega arith in g))
    (λ m. subst (λ v. v < 256) (sym (get_or_past (pad p) i 0 m)) (let g : 0 < 256 = omega arith in g))
    (cases_lt i (length (pad p))))
    (cases_lt i (length p))

pub at_block : (q : List ℕ) (k j : ℕ) → j < 16 → slice_index (block q k) j ≡ slice_index q (16 * k + j)
at_block q k j h = get_or-take 16 (drop (16 * k) q) j 0 h ∙ get_or-drop (16 * k) q j 0

-- The last block of a padded text ends in the padding.
pub pad_ends : (p : List ℕ) → IsPadded (block (pad p) (length p / 16)) (added p)
pad_ends p = record {
  above = omega arith;
  within = omega arith;
  each = λ i h l. at_block (pad p) (length p / 16) i l ∙ behind p (16 * (length p / 16) + i) (omega arith) (omega (arith, length-pad p));
}

one_padding : (b : List ℕ) (n m : ℕ) → IsPadded b n → IsPadded b m → n ≡ m
one_padding b n m x y = sym (x.each 15 (omega (arith, x.above)) (omega arith)) ∙ y.each 15 (omega (arith, y.above)) (omega arith)

front : (p : List ℕ) → take (length p) (pad p) ≡ p
unfolding pad
front p = take_at p (replicate (added p) (added p)) (length p) refl

pub pad_is_unique : (p q : List ℕ) → pad p ≡ pad q → p ≡ q
pad_is_unique p q same =
    let blocks : length p / 16 ≡ length q / 16 = omega (arith, length-pad p, length-pad q, ap length same) in
    let padding : added p ≡ added q =
    one_padding (block (pad q) (length q / 16)) (added p) (added q)
    (subst (λ k. IsPadded (block (pad q) k) (added p)) blocks (subst (λ x. IsPadded (block x (length p / 16)) (added p)) same (pad_ends p))) (pad_ends q) in
    sym (front p) ∙ ap (take (length p)) same ∙ ap (λ k. take k (pad q)) (let e : length p ≡ length q = omega (arith, blocks, padding) in e) ∙ front q

-- A text whose last block ends in padding is the padded form of the text without this padding.
pub unpadded : (q : List ℕ) (n v : ℕ) → length q ≡ 16 * suc n → IsPadded (block q n) v → pad (take (length q - v) q) ≡ q
unfolding pad
unpadded q n v len x =
    let above = x.above in
    let within = x.within in
    let size : length (take (length q - v) q) ≡ length q - v = length-take (length q - v) q ∙ omega arith in
    let is : added (take (length q - v) q) ≡ v = omega arith in
    ap (λ k. take (length q - v) q ++ replicate k k) is
    ∙ ap (λ t. take (length q - v) q ++ t) (sym tail)
    ∙ take-append-drop (length q - v) q
  where
    tail : drop (length q - v) q ≡ replicate v v
    tail =
        let above = x.above in
        let within = x.within in
        let size : length (drop (length q - v) q) ≡ v = length-drop (length q - v) q ∙ omega arith in
        ext_get_or 0 (drop (length q - v) q) (replicate v v) (size ∙ sym (length-replicate v v)) (λ j l.
        let m : j < v = omega arith in
        get_or-drop (length q - v) q j 0
        ∙ ap (slice_index q) (let e : length q - v + j ≡ 16 * n + (16 - v + j) = omega arith in e)
        ∙ sym (at_block q n (16 - v + j) (omega arith))
        ∙ x.each (16 - v + j) (omega arith) (omega arith)
        ∙ sym (get_or-replicate v j v 0 m))
