-- A text that comes in pieces. The octets that do not fill a block are waiting.
use Rattle.std.proofs.Common.{◌≡◌, ℕ, ◌+◌, ◌-◌, ◌*◌, ◌/◌, ◌%◌, ◌<◌, List, ◌++◌, length, take, drop, sym, ap, ◌∙◌, arith, length-append, length-take, length-drop, append_assoc}
use Rattle.std.proofs.lemmas.List.{drop_at, take_all, take-append-drop}

-- the whole blocks of a text
abbrev pub whole_of : List ℕ → List ℕ
whole_of p = take (16 * (length p / 16)) p

-- ---- w is waiting after the text p; the piece x completes the whole blocks t, and then v is waiting

module _ (p w : List ℕ) (waits : w ≡ drop (16 * (length p / 16)) p) where
  pub length-whole : length (whole_of p) ≡ 16 * (length p / 16)
  length-whole = omega (arith, length-take (16 * (length p / 16)) p)

  pub whole_and_rest : whole_of p ++ w ≡ p
  whole_and_rest = ap (λ s. whole_of p ++ s) waits ∙ take-append-drop (16 * (length p / 16)) p

  pub length-waits : length w ≡ length p % 16
  length-waits = omega (arith, ap length waits, length-drop (16 * (length p / 16)) p)

  pub waits_short : length w < 16
  waits_short = omega (arith, length-waits)

  module _ (x t v : List ℕ) (k : ℕ) (same : w ++ x ≡ t ++ v) (whole : length t ≡ 16 * k) (short : length v < 16) where
    pub longer : p ++ x ≡ whole_of p ++ (t ++ v)
    longer = ap (λ s. s ++ x) (sym whole_and_rest) ∙ append_assoc (whole_of p) w x ∙ ap (λ s. whole_of p ++ s) same

    long : length (p ++ x) ≡ 16 * (length p / 16 + k) + length v
    long = ap length longer ∙ omega (arith, length-append (whole_of p) (t ++ v), length-append t v, length-whole, whole)

    pub together : length (p ++ x) / 16 ≡ length p / 16 + k
    together = omega (arith, long, short)

    pub fed_waiting : v ≡ drop (16 * (length (p ++ x) / 16)) (p ++ x)
    fed_waiting =
        sym (drop_at (whole_of p ++ t) v (16 * (length (p ++ x) / 16)) (omega (arith, length-append (whole_of p) t, length-whole, whole, together)))
        ∙ ap (drop (16 * (length (p ++ x) / 16))) (append_assoc (whole_of p) t v ∙ sym longer)

-- ---- the piece fills the block that is waiting, and more

module _ (w front rest : List ℕ) (fills : length w + length front ≡ 16) where
  -- the block that was filled, the whole blocks after it, and the octets that are waiting then
  abbrev pub full : List ℕ
  full = w ++ front

  abbrev pub blocks : List ℕ
  blocks = take (length rest / 16 * 16) rest

  abbrev pub left : List ℕ
  left = take (length rest - length rest / 16 * 16) (drop (length rest / 16 * 16) rest)

  left_is : left ≡ drop (length rest / 16 * 16) rest
  left_is = take_all (length rest - length rest / 16 * 16) (drop (length rest / 16 * 16) rest) (omega (arith, length-drop (length rest / 16 * 16) rest))

  pub joined : w ++ (front ++ rest) ≡ (full ++ blocks) ++ left
  joined =
      sym (append_assoc w front rest)
      ∙ ap (λ s. full ++ s) (sym (take-append-drop (length rest / 16 * 16) rest) ∙ ap (λ s. blocks ++ s) (sym left_is))
      ∙ sym (append_assoc full blocks left)

  pub sixteen : length full ≡ 16 * 1
  sixteen = length-append w front ∙ omega (arith, fills)

  pub length-blocks : length blocks ≡ 16 * (length rest / 16)
  length-blocks = length-take (length rest / 16 * 16) rest ∙ omega arith

  pub filled_whole : length (full ++ blocks) ≡ 16 * (1 + length rest / 16)
  filled_whole = length-append full blocks ∙ omega (arith, sixteen, length-blocks)

  pub left_short : length left < 16
  left_short = omega (arith, ap length left_is, length-drop (length rest / 16 * 16) rest)

module _ (p w : List ℕ) (waits : w ≡ drop (16 * (length p / 16)) p) (front rest : List ℕ) (fills : length w + length front ≡ 16) where
  pub filled_waiting : left w front rest fills ≡ drop (16 * (length (p ++ (front ++ rest)) / 16)) (p ++ (front ++ rest))
  filled_waiting = fed_waiting p w waits (front ++ rest) (full w front rest fills ++ blocks w front rest fills) (left w front rest fills) (1 + length rest / 16)
      (joined w front rest fills) (filled_whole w front rest fills) (left_short w front rest fills)
