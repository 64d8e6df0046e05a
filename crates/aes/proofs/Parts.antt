-- A list in which a part is overwritten.
use Rattle.std.proofs.Common.{◌≡◌, ◌≢◌, ℕ, ◌+◌, ◌-◌, ◌*◌, ◌<◌, ◌≤◌, List, ◌++◌, length, take, drop, get_or, sym, ap, ◌∙◌, arith, ⊎_elim}
use Rattle.std.proofs.lemmas.Bool.{cases_lt}
use Rattle.std.proofs.lemmas.List.{get_or_append_left, get_or-append_right, length-take-le, get_or-take}
use Rattle.std.proofs.lemmas.Slice.{between_is, between-put_mid, take-put_mid_below, drop-put_mid}
use Rattle.aes.specs.Code.Blocks.{block}
use borrow.Rule.Slice.PartMut.{put_mid}

-- x overwrites n octets from place s on
module _ (r x : List ℕ) (s n : ℕ) (long : length x ≡ n) (room : s + n ≤ length r) where
  abbrev pub now : List ℕ
  now = put_mid s n r x

  front : length (take s r) ≡ s
  front = length-take-le s r (omega (arith, room))

  pub at_before : (i : ℕ) → i < s → get_or now i 0 ≡ get_or r i 0
  at_before i h = get_or_append_left (take s r) (x ++ drop n (drop s r)) 0 i (omega (arith, front, h)) ∙ get_or-take s r i 0 h

  pub at_part : (i : ℕ) → i < n → get_or now (s + i) 0 ≡ get_or x i 0
  at_part i h =
      get_or-append_right (take s r) (x ++ drop n (drop s r)) s (s + i) 0 front (omega arith)
      ∙ ap (λ k. get_or (x ++ drop n (drop s r)) k 0) (let e : s + i - s ≡ i = omega arith in e)
      ∙ get_or_append_left x (drop n (drop s r)) 0 i (omega (arith, long, h))

-- x overwrites block i
module _ (r x : List ℕ) (i n : ℕ) (sixteen : n ≡ 16) (long : length x ≡ n) (room : 16 * i + n ≤ length r) where
  abbrev pub after : List ℕ
  after = put_mid (16 * i) n r x

  -- a block as the slice `&p[16 * j..16 * j + 16]`
  sliced : (p : List ℕ) (j : ℕ) → block p j ≡ drop (16 * j) (take (16 * j + 16) p)
  sliced p j = ap (λ m. take m (drop (16 * j) p)) (let e : 16 ≡ 16 * j + 16 - 16 * j = omega arith in e) ∙ between_is p (16 * j) (16 * j + 16)

  pub block_written : block after i ≡ x
  block_written =
      ap (λ m. take m (drop (16 * i) after)) (let e : 16 ≡ 16 * i + 16 - 16 * i = omega arith in e)
      ∙ between-put_mid (16 * i) n r x (16 * i + 16) (omega (arith, room)) (omega (arith, long, sixteen))

  pub block_kept : (j : ℕ) → j ≢ i → block after j ≡ block r j
  block_kept j ne = ⊎_elim
      (λ below. sliced after j ∙ ap (drop (16 * j)) (take-put_mid_below (16 * i) n r x (16 * j + 16) (omega (arith, below)) (omega (arith, room)))
      ∙ sym (sliced r j))
      (λ above. ap (take 16) (drop-put_mid (16 * i) n r x (16 * j) (omega (arith, ne, above, sixteen)) (omega (arith, room)) long))
      (cases_lt j i)
