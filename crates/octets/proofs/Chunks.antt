-- Lists in chunks of w elements.
use Rattle.std.proofs.Common.{◌≡◌, ◌≢◌, ℕ, zero, suc, ◌+◌, ◌-◌, ◌*◌, ◌<◌, ◌≤◌, List, ◌++◌, length, take, drop, map, sym, ap, ap₂, subst, ◌∙◌, arith, add-one, length-append, length-drop, get_or-take, get_or-drop, length-take, ⊎_elim}
use Rattle.std.specs.List.{between, range_with_len, concat}
use Rattle.std.proofs.Math.Nat.{mul-suc, mul-le-mul_left}
use Rattle.std.proofs.lemmas.List.{take_at, drop_at, drop_all, take-append-drop, take-append-le, drop-append-le, drop-drop, length-take-le, get_or_past}
use Rattle.std.proofs.lemmas.Bool.{cases_eq, cases_lt}
use Rattle.std.proofs.lemmas.Slice.{between_is, take-put_mid_below, drop-put_mid, between-put_mid}
use Rattle.octets.specs.Octets.{IsOctets}
use borrow.Rule.Slice.PartMut.{put_mid}

-- chunk i, from 0
abbrev pub chunk : ℕ → List ℕ → ℕ → List ℕ
chunk w p i = take w (drop (w * i) p)

-- ---- the beginning of a chunk

times_add : (w n i : ℕ) → w * (n + i) ≡ w * n + w * i
times_add w n zero = ap (λ k. w * k) (let e : n + 0 ≡ n = omega arith in e) ∙ (let e : w * n ≡ w * n + w * 0 = omega arith in e)
times_add w n (suc i) =
    ap (λ k. w * k) (let e : n + suc i ≡ suc (n + i) = omega arith in e)
    ∙ mul-suc w (n + i)
    ∙ omega (arith, times_add w n i, mul-suc w i)

times_one_more : (w i : ℕ) → w * (i + 1) ≡ w + w * i
times_one_more w i = ap (λ k. w * k) (add-one i) ∙ mul-suc w i ∙ omega arith

-- A chunk ends at the beginning of a later one, or before it.
times_below : (w j i : ℕ) → j < i → w * j + w ≤ w * i
times_below w j i l = subst (λ n. n ≤ w * i) (mul-suc w j) (mul-le-mul_left w (let e : suc j ≤ i = omega arith in e))

-- ---- a chunk

-- The slice `&p[w * i..w * i + w]` is chunk i.
pub chunk_is : (w : ℕ) (p : List ℕ) (i : ℕ) → between (w * i) (w * i + w) p ≡ chunk w p i
chunk_is w p i = ap (λ n. take n (drop (w * i) p)) (let e : w * i + w - w * i ≡ w = omega arith in e)

pub length-chunk : (w : ℕ) (p : List ℕ) (i : ℕ) → w * i + w ≤ length p → length (chunk w p i) ≡ w
length-chunk w p i h = length-take-le w (drop (w * i) p) (omega (arith, length-drop (w * i) p, h))

pub chunk_octets : (w : ℕ) (p : List ℕ) (i : ℕ) → IsOctets p → IsOctets (chunk w p i)
chunk_octets w p i o k = ⊎_elim
    (λ l. subst (λ v. v < 256) (sym (get_or-take w (drop (w * i) p) k 0 l ∙ get_or-drop (w * i) p k 0)) (o (w * i + k)))
    (λ l. subst (λ v. v < 256) (sym (get_or_past (chunk w p i) k 0 (omega (arith, l, length-take w (drop (w * i) p))))) (let z : 0 < 256 = omega arith in z))
    (cases_lt k w)

-- ---- chunks of two joined lists, the first of which consists of whole chunks

pub chunk_front : (w : ℕ) (m q : List ℕ) (i : ℕ) → w * i + w ≤ length m → chunk w (m ++ q) i ≡ chunk w m i
chunk_front w m q i h =
    ap (take w) (drop-append-le (w * i) m q (omega (arith, h)))
    ∙ take-append-le w (drop (w * i) m) q (omega (arith, length-drop (w * i) m, h))

pub chunk_back : (w : ℕ) (m q : List ℕ) (n i : ℕ) → length m ≡ w * n → chunk w (m ++ q) (n + i) ≡ chunk w q i
chunk_back w m q n i h =
    ap (take w)
    (ap (λ k. drop k (m ++ q)) (times_add w n i)
    ∙ sym (drop-drop (w * i) (w * n) (m ++ q))
    ∙ ap (drop (w * i)) (drop_at m q (w * n) h))

-- ---- a write to `r[w * i..w * i + w]`

module _ (w : ℕ) (r x : List ℕ) (i n : ℕ) (wide : n ≡ w) (room : w * i + w ≤ length r) (long : length x ≡ w) where
  abbrev pub written : List ℕ
  written = put_mid (w * i) n r x

  pub chunk_written : chunk w written i ≡ x
  chunk_written = sym (chunk_is w written i) ∙ between-put_mid (w * i) n r x (w * i + w) (omega (arith, room)) (omega (arith, long))

  pub length-written : length written ≡ length r
  length-written =
      length-append (take (w * i) r) (x ++ drop n (drop (w * i) r))
      ∙ omega (
        arith,
        length-append x (drop n (drop (w * i) r)),
        length-take-le (w * i) r (omega (arith, room)),
        length-drop n (drop (w * i) r),
        length-drop (w * i) r,
        room,
        long,
        wide,
      )

  below : (j : ℕ) → j < i → between (w * j) (w * j + w) written ≡ between (w * j) (w * j + w) r
  below j l =
      between_is written (w * j) (w * j + w)
      ∙ ap (drop (w * j)) (take-put_mid_below (w * i) n r x (w * j + w) (times_below w j i l) (omega (arith, room)))
      ∙ sym (between_is r (w * j) (w * j + w))

  above : (j : ℕ) → i < j → between (w * j) (w * j + w) written ≡ between (w * j) (w * j + w) r
  above j l = ap (take (w * j + w - w * j)) (drop-put_mid (w * i) n r x (w * j) (omega (arith, times_below w i j l, wide)) (omega (arith, room))
      (omega (arith, long, wide)))

  pub chunk_kept : (j : ℕ) → j ≢ i → chunk w written j ≡ chunk w r j
  chunk_kept j ne =
      sym (chunk_is w written j)
      ∙ ⊎_elim (λ l. below j l) (λ l. above j (omega (arith, ne, l))) (cases_lt j i)
      ∙ chunk_is w r j

  -- If the other chunks are those of f and the new one is, all chunks are those of f.
  pub chunk_more : (f : ℕ → List ℕ) → x ≡ f i → (j : ℕ) → (j ≢ i → chunk w r j ≡ f j) → chunk w written j ≡ f j
  chunk_more f is j other = ⊎_elim
      (λ (s : j ≡ i). ap (chunk w written) s ∙ chunk_written ∙ is ∙ ap f (sym s))
      (λ ne. chunk_kept j ne ∙ other ne)
      (cases_eq j i)

-- ---- all chunks joined

pub chunks_joined : (w : ℕ) (f : ℕ → List ℕ) (n a : ℕ) (r : List ℕ) → length r ≡ w * n → ((i : ℕ) → i < n → chunk w r i ≡ f (a + i))
    → concat (map f (range_with_len a n)) ≡ r
chunks_joined w f zero a r h k = sym (drop_all 0 r (omega (arith, h)))
chunks_joined w f (suc n) a r h k =
    ap₂ (λ s t. s ++ t)
    (ap f (let e : a ≡ a + 0 = omega arith in e) ∙ sym (k 0 (omega arith)) ∙ ap (λ m. take w (drop m r)) (let e : w * 0 ≡ 0 = omega arith in e))
    (chunks_joined w f n (a + 1) (drop w r) (length-drop w r ∙ omega (arith, h, mul-suc w n))
    (λ i l. ap (take w) (drop-drop (w * i) w r ∙ ap (λ m. drop m r) (sym (times_one_more w i)))
    ∙ k (i + 1) (omega (arith, l))
    ∙ ap f (let e : a + (i + 1) ≡ a + 1 + i = omega arith in e)))
    ∙ take-append-drop w r

-- Two lists with the same chunks are equal.
pub same_chunks : (w n : ℕ) (r p : List ℕ) → length r ≡ w * n → length p ≡ w * n → ((i : ℕ) → i < n → chunk w r i ≡ chunk w p i) → r ≡ p
same_chunks w n r p h k same =
    let from : (i : ℕ) → chunk w p i ≡ chunk w p (0 + i) = λ i. ap (chunk w p) (let e : i ≡ 0 + i = omega arith in e) in
    sym (chunks_joined w (chunk w p) n 0 r h (λ i l. same i l ∙ from i)) ∙ chunks_joined w (chunk w p) n 0 p k (λ i l. from i)

module _ (w : ℕ) (f : ℕ → List ℕ) where
  pub length-joined : (n a : ℕ) → ((k : ℕ) → k < n → length (f (a + k)) ≡ w) → length (concat (map f (range_with_len a n))) ≡ w * n
  length-joined zero a h = let e : 0 ≡ w * 0 = omega arith in e
  length-joined (suc n) a h =
      let first : length (f a) ≡ w = ap (λ k. length (f k)) (let e : a ≡ a + 0 = omega arith in e) ∙ h 0 (omega arith) in
      let rest = length-joined n (a + 1) (λ k l. ap (λ m. length (f m)) (let e : a + 1 + k ≡ a + (k + 1) = omega arith in e) ∙ h (k + 1) (omega (arith, l))) in
      length-append (f a) (concat (map f (range_with_len (a + 1) n))) ∙ omega (arith, first, rest, mul-suc w n)

  pub chunk-joined : (n a i : ℕ) → ((k : ℕ) → k < n → length (f (a + k)) ≡ w) → i < n → chunk w (concat (map f (range_with_len a n))) i ≡ f (a + i)
  chunk-joined zero a i h l = absurd (omega arith)
  chunk-joined (suc n) a zero h l =
      ap (λ m. take w (drop m (f a ++ concat (map f (range_with_len (a + 1) n))))) (let e : w * 0 ≡ 0 = omega arith in e)
      ∙ take_at (f a) (concat (map f (range_with_len (a + 1) n))) w (ap (λ k. length (f k)) (let e : a ≡ a + 0 = omega arith in e) ∙ h 0 (omega arith))
      ∙ ap f (let e : a ≡ a + 0 = omega arith in e)
  chunk-joined (suc n) a (suc i) h l =
      let first : length (f a) ≡ w = ap (λ k. length (f k)) (let e : a ≡ a + 0 = omega arith in e) ∙ h 0 (omega arith) in
      let rest = concat (map f (range_with_len (a + 1) n)) in
      ap (λ k. chunk w (f a ++ rest) k) (let e : suc i ≡ 1 + i = omega arith in e)
      ∙ chunk_back w (f a) rest 1 i (first ∙ (let e : w ≡ w * 1 = omega arith in e))
      ∙ chunk-joined n (a + 1) i (λ k l'. ap (λ m. length (f m)) (let e : a + 1 + k ≡ a + (k + 1) = omega arith in e)
      ∙ h (k + 1) (omega (arith, l'))) (omega (arith, l))
      ∙ ap f (let e : a + 1 + i ≡ a + suc i = omega arith in e)
