-- Several blocks of a list at once.
use Rattle.std.proofs.Common.{◌≡◌, ℕ, ◌+◌, ◌-◌, ◌*◌, ◌<◌, ◌≤◌, List, ◌++◌, length, take, drop, bit_xor, sym, ap, ap₂, ◌∙◌, arith, length-drop, ext_get_or}
use Rattle.std.specs.List.{between}
use Rattle.std.proofs.lemmas.List.{take-take, drop-take, drop-drop, take-append-drop, length-take-le}
use Rattle.std.proofs.lemmas.Slice.{drop-put_mid}
use Rattle.octets.proofs.Lemmas.{length-chunk, chunk_front, chunk_back}
use Rattle.octets.specs.Octets.{xor_octets}
use Rattle.modes.specs.Cbc.{block}
use Rattle.modes.proofs.Padding.{at_block}
use Rattle.modes.proofs.Sums.{length-xor, at-xor}
use borrow.Rule.Slice.PartMut.{put_mid}

pub length-within : (p : List ℕ) (s t : ℕ) → t ≤ length p → length (between s t p) ≡ t - s
length-within p s t h = length-take-le (t - s) (drop s p) (omega (arith, length-drop s p, h))

-- The slice `&p[s..t]`, which begins after a blocks, has the blocks of p from block a on.
pub block_within : (p : List ℕ) (a i s t : ℕ) → s ≡ 16 * a → 16 * (a + i) + 16 ≤ t → block (between s t p) i ≡ block p (a + i)
block_within p a i s t start room =
    let n = t - s - 16 * i in
    let wide : t - s ≡ 16 * i + n = omega (arith, start, room) in
    ap (λ m. take 16 (drop (16 * i) (take m (drop s p)))) wide
    ∙ ap (take 16) (drop-take (16 * i) n (drop s p))
    ∙ take-take 16 n (drop (16 * i) (drop s p)) (omega (arith, start, room))
    ∙ ap (take 16) (drop-drop (16 * i) s p ∙ ap (λ m. drop m p) (let e : s + 16 * i ≡ 16 * (a + i) = omega (arith, start) in e))

pub block_xor : (x y : List ℕ) (i : ℕ) → length y ≡ length x → 16 * i + 16 ≤ length x → block (xor_octets x y) i ≡ xor_octets (block x i) (block y i)
block_xor x y i same room =
    let z = xor_octets x y in
    let wide : length (block x i) ≡ 16 = length-chunk 16 x i room in
    ext_get_or 0 (block z i) (xor_octets (block x i) (block y i))
    (length-chunk 16 z i (omega (arith, room, length-xor x y)) ∙ sym (length-xor (block x i) (block y i) ∙ wide))
    (λ j l.
    let m : j < 16 = omega (arith, l, length-chunk 16 z i (omega (arith, room, length-xor x y))) in
    at_block z i j m
    ∙ at-xor x y (16 * i + j) (omega (arith, room, m))
    ∙ sym (at-xor (block x i) (block y i) j (omega (arith, m, wide)) ∙ ap₂ bit_xor (at_block x i j m) (at_block y i j m)))

-- ---- x overwrites a whole number of blocks, from block a on

module _ (r x : List ℕ) (a n s : ℕ) (start : s ≡ 16 * a) (long : length x ≡ n) (room : s + n ≤ length r) where
  abbrev pub now : List ℕ
  now = put_mid s n r x

  front : length (take s r) ≡ 16 * a
  front = length-take-le s r (omega (arith, room)) ∙ start

  pub block_written : (i : ℕ) → 16 * i + 16 ≤ n → block now (a + i) ≡ block x i
  block_written i h = chunk_back 16 (take s r) (x ++ drop n (drop s r)) a i front ∙ chunk_front 16 x (drop n (drop s r)) i (omega (arith, h, long))

  pub block_before : (i : ℕ) → i < a → block now i ≡ block r i
  block_before i h =
      chunk_front 16 (take s r) (x ++ drop n (drop s r)) i (omega (arith, h, front))
      ∙ sym (ap (λ q. block q i) (sym (take-append-drop s r)) ∙ chunk_front 16 (take s r) (drop s r) i (omega (arith, h, front)))

  pub block_behind : (i : ℕ) → s + n ≤ 16 * i → block now i ≡ block r i
  block_behind i h = ap (take 16) (drop-put_mid s n r x (16 * i) h (omega (arith, room)) long)
