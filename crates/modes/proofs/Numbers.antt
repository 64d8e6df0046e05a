-- The blocks of octets as numbers.
use Rattle.std.proofs.Common.{◌≡◌, ℕ, zero, suc, ◌+◌, ◌*◌, ◌/◌, ◌<◌, List, [], ◌∷◌, ◌++◌, length, map, take, drop, sym, ap, ap₂, ◌∙◌, arith, refl, length-append, append-nil, append_assoc}
use Rattle.std.specs.Int.{w128, from_be_bytes}
use Rattle.std.specs.List.{range_with_len}
use Rattle.modes.specs.Cbc.{block}
use Rattle.modes.specs.Ghash.{numbers}
use Rattle.octets.proofs.Lemmas.{chunk_front, chunk_back}
use Rattle.modes.proofs.Pieces.{whole_of, length-whole, whole_and_rest, waits_short, longer, left, joined, sixteen, filled_whole, left_short}

-- block i as a number; and the first n blocks as numbers
abbrev pub number : List ℕ → ℕ → ℕ
number p i = from_be_bytes w128 (block p i)

abbrev pub numbers_to : List ℕ → ℕ → List ℕ
numbers_to p n = map (number p) (range_with_len 0 n)

pub numbers_are : (p : List ℕ) (n : ℕ) → length p / 16 ≡ n → numbers p ≡ numbers_to p n
unfolding numbers
numbers_are p n h = ap (numbers_to p) h

pub no_numbers : (w : List ℕ) → length w < 16 → numbers w ≡ []
no_numbers w h = numbers_are w 0 (omega arith)

add : (f : ℕ → ℕ) (n k a : ℕ) → map f (range_with_len a (n + k)) ≡ map f (range_with_len a n) ++ map f (range_with_len (a + n) k)
add f zero k a = ap₂ (λ b m. map f (range_with_len b m)) (let e : a ≡ a + 0 = omega arith in e) (let e : 0 + k ≡ k = omega arith in e)
add f (suc n) k a =
    ap (λ m. map f (range_with_len a m)) (let e : suc n + k ≡ suc (n + k) = omega arith in e)
    ∙ ap (λ t. f a ∷ t) (add f n k (a + 1) ∙ ap (λ b. map f (range_with_len (a + 1) n) ++ map f (range_with_len b k))
    (let e : a + 1 + n ≡ a + suc n = omega arith in e))

same : (f g : ℕ → ℕ) (n a b : ℕ) → ((i : ℕ) → i < n → f (a + i) ≡ g (b + i)) → map f (range_with_len a n) ≡ map g (range_with_len b n)
same f g zero a b h = refl
same f g (suc n) a b h =
    ap₂ (λ x t. x ∷ t)
    (ap f (let e : a ≡ a + 0 = omega arith in e) ∙ h 0 (omega arith) ∙ ap g (let e : b + 0 ≡ b = omega arith in e))
    (same f g n (a + 1) (b + 1) (λ i l.
    ap f (let e : a + 1 + i ≡ a + (i + 1) = omega arith in e)
    ∙ h (i + 1) (omega arith)
    ∙ ap g (let e : b + (i + 1) ≡ b + 1 + i = omega arith in e)))

-- After whole blocks, the numbers of the following blocks are appended.
pub numbers_behind : (m q : List ℕ) (n : ℕ) → length m ≡ 16 * n → numbers (m ++ q) ≡ numbers m ++ numbers q
numbers_behind m q n whole =
    let k = length q / 16 in
    numbers_are (m ++ q) (n + k) (omega (arith, length-append m q, whole))
    ∙ add (number (m ++ q)) n k 0
    ∙ ap₂ (λ s t. s ++ t)
    (same (number (m ++ q)) (number m) n 0 0 (λ i l. ap (from_be_bytes w128) (chunk_front 16 m q (0 + i) (omega (arith, whole))))
    ∙ sym (numbers_are m n (omega (arith, whole))))
    (same (number (m ++ q)) (number q) k (0 + n) 0 (λ i l.
    ap (number (m ++ q)) (let e : 0 + n + i ≡ n + i = omega arith in e)
    ∙ ap (from_be_bytes w128) (chunk_back 16 m q n i whole)
    ∙ ap (number q) (let e : i ≡ 0 + i = omega arith in e))
    ∙ sym (numbers_are q k refl))

-- ---- w is waiting after the text p

module _ (p w : List ℕ) (waits : w ≡ drop (16 * (length p / 16)) p) where
  -- If the piece x completes the whole blocks t, and v is waiting then, the numbers of t are appended.
  pub fed_numbers : (x t v : List ℕ) (k : ℕ) → w ++ x ≡ t ++ v → length t ≡ 16 * k → length v < 16 → numbers (p ++ x) ≡ numbers p ++ numbers t
  fed_numbers x t v k same whole short =
      let n = length p / 16 in
      let size = length-whole p w waits in
      ap numbers (longer p w waits x t v k same whole short)
      ∙ numbers_behind (whole_of p) (t ++ v) n size
      ∙ ap₂ (λ a b. a ++ b)
      (sym (ap numbers (sym (whole_and_rest p w waits)) ∙ numbers_behind (whole_of p) w n size
      ∙ ap (λ s. numbers (whole_of p) ++ s) (no_numbers w (waits_short p w waits)) ∙ append-nil (numbers (whole_of p))))
      (numbers_behind t v k whole ∙ ap (λ s. numbers t ++ s) (no_numbers v short) ∙ append-nil (numbers t))

  -- A piece fills the block that is waiting, and more blocks.
  pub filled_numbers : (front rest : List ℕ) → length w + length front ≡ 16
      → numbers (p ++ (front ++ rest)) ≡ (numbers p ++ numbers (w ++ front)) ++ numbers (take (length rest / 16 * 16) rest)
  filled_numbers front rest fills =
      let more = take (length rest / 16 * 16) rest in
      fed_numbers (front ++ rest) ((w ++ front) ++ more) (left w front rest fills) (1 + length rest / 16) (joined w front rest fills)
      (filled_whole w front rest fills) (left_short w front rest fills)
      ∙ ap (λ s. numbers p ++ s) (numbers_behind (w ++ front) more 1 (sixteen w front rest fills))
      ∙ sym (append_assoc (numbers p) (numbers (w ++ front)) (numbers more))
