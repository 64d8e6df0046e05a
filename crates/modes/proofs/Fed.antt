-- The text that was fed, and the output for the next piece.
use Rattle.std.proofs.Common.{◌≡◌, ℕ, ◌+◌, ◌-◌, ◌*◌, ◌/◌, ◌%◌, ◌<◌, List, [], ◌++◌, length, take, drop, replicate, sym, ap, ap₂, ◌∙◌, arith, length-append, append-nil}
use Rattle.std.proofs.lemmas.List.{length-replicate, take-replicate}
use Rattle.modes.specs.Cbc.{pad, chained, cbc_blocks, cbc}
use Rattle.modes.proofs.Pieces.{whole_of, length-whole, whole_and_rest, length-waits, waits_short, longer, together, full, blocks, left, joined, sixteen, length-blocks, filled_whole, left_short}
use Rattle.modes.proofs.Chaining.{none_alone, chained_front, chained_back, blocks_behind}

-- ---- w is waiting after the text p; the piece x completes the whole blocks t, and then v is waiting

module _ (e : List ℕ → List ℕ) (iv p previous w : List ℕ) (is : previous ≡ chained e iv p (length p / 16)) (waits : w ≡ drop (16 * (length p / 16)) p)
    (x t v : List ℕ) (k : ℕ) (same : w ++ x ≡ t ++ v) (whole : length t ≡ 16 * k) (short : length v < 16) where
  abbrev n : ℕ
  n = length p / 16

  abbrev m : List ℕ
  m = whole_of p

  front : length m ≡ 16 * n
  front = length-whole p w waits

  text : m ++ w ≡ p
  text = whole_and_rest p w waits

  goes_on : previous ≡ chained e iv m n
  goes_on = is ∙ ap (λ s. chained e iv s n) (sym text) ∙ chained_front e iv m n front w n (omega arith)

  pub fed_previous : chained e previous t k ≡ chained e iv (p ++ x) (length (p ++ x) / 16)
  fed_previous =
      ap (λ s. chained e s t k) goes_on
      ∙ sym (chained_front e (chained e iv m n) t k whole v k (omega arith))
      ∙ sym (chained_back e iv m n front (t ++ v) k)
      ∙ ap₂ (chained e iv) (sym (longer p w waits x t v k same whole short)) (sym (together p w waits x t v k same whole short))

  pub fed_text : cbc_blocks e iv (p ++ x) ≡ cbc_blocks e iv p ++ cbc_blocks e previous t
  fed_text =
      ap (cbc_blocks e iv) (longer p w waits x t v k same whole short)
      ∙ blocks_behind e iv m n front (t ++ v)
      ∙ ap₂ (λ a b. a ++ b)
      (sym (ap (cbc_blocks e iv) (sym text) ∙ blocks_behind e iv m n front w ∙ ap (λ s. cbc_blocks e iv m ++ s) (none_alone e _ w (waits_short p w waits))
      ∙ append-nil (cbc_blocks e iv m)))
      (ap (λ s. cbc_blocks e s (t ++ v)) (sym goes_on)
      ∙ blocks_behind e previous t k whole v
      ∙ ap (λ s. cbc_blocks e previous t ++ s) (none_alone e _ v short)
      ∙ append-nil (cbc_blocks e previous t))

-- ---- the piece fills the block that is waiting, and more

module _ (e : List ℕ → List ℕ) (iv p previous w : List ℕ) (is : previous ≡ chained e iv p (length p / 16)) (waits : w ≡ drop (16 * (length p / 16)) p)
    (front rest : List ℕ) (fills : length w + length front ≡ 16) where
  abbrev full_block : List ℕ
  full_block = full w front rest fills

  abbrev whole_blocks : List ℕ
  whole_blocks = blocks w front rest fills

  pub filled_previous : chained e (chained e previous full_block 1) whole_blocks (length whole_blocks / 16)
      ≡ chained e iv (p ++ (front ++ rest)) (length (p ++ (front ++ rest)) / 16)
  filled_previous =
      ap (chained e (chained e previous full_block 1) whole_blocks)
      (let z : length whole_blocks / 16 ≡ length rest / 16 = omega (arith, length-blocks w front rest fills) in z)
      ∙ sym (chained_back e previous full_block 1 (sixteen w front rest fills) whole_blocks (length rest / 16))
      ∙ fed_previous e iv p previous w is waits (front ++ rest) (full_block ++ whole_blocks) (left w front rest fills) (1 + length rest / 16)
      (joined w front rest fills) (filled_whole w front rest fills) (left_short w front rest fills)

  pub filled_text : cbc_blocks e iv (p ++ (front ++ rest))
      ≡ cbc_blocks e iv p ++ (cbc_blocks e previous full_block ++ cbc_blocks e (chained e previous full_block 1) whole_blocks)
  filled_text =
      fed_text e iv p previous w is waits (front ++ rest) (full_block ++ whole_blocks) (left w front rest fills) (1 + length rest / 16)
      (joined w front rest fills) (filled_whole w front rest fills) (left_short w front rest fills)
      ∙ ap (λ s. cbc_blocks e iv p ++ s) (blocks_behind e previous full_block 1 (sixteen w front rest fills) whole_blocks)

-- ---- the end

module _ (e : List ℕ → List ℕ) (iv p previous w : List ℕ) (is : previous ≡ chained e iv p (length p / 16)) (waits : w ≡ drop (16 * (length p / 16)) p)
    (n : ℕ) (fills : length w + n ≡ 16) where
  -- The number n is that of the missing octets.
  missing : n ≡ 16 - length p % 16
  missing = omega (arith, fills, length-waits p w waits)

  padding : take n (replicate 16 n) ≡ replicate (16 - length p % 16) (16 - length p % 16)
  padding = take-replicate n 16 n (omega (arith, fills)) ∙ ap (λ k. replicate k k) missing

  pub finished : cbc e iv p ≡ cbc_blocks e iv p ++ cbc_blocks e previous (w ++ take n (replicate 16 n))
  unfolding cbc pad
  finished =
      let x = replicate (16 - length p % 16) (16 - length p % 16) in
      let one : length (w ++ x) ≡ 16 * 1 = length-append w x
      ∙ omega (arith, length-waits p w waits, length-replicate (16 - length p % 16) (16 - length p % 16)) in
      fed_text e iv p previous w is waits x (w ++ x) [] 1 (sym (append-nil (w ++ x))) one (omega arith)
      ∙ ap (λ s. cbc_blocks e iv p ++ cbc_blocks e previous (w ++ s)) (sym padding)
