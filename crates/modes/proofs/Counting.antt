-- Counter mode: the steps of the counter, and the key stream at each place.
use Rattle.std.proofs.Common.{◌≡◌, ℕ, ◌+◌, ◌-◌, ◌*◌, ◌/◌, ◌%◌, ◌^◌, ◌<◌, ◌≤◌, List, ◌++◌, length, take, drop, map, get_or, slice_index, bit_xor, w32, refl, sym, ap, ap₂, subst, ◌∙◌, arith, rules, length-append, length-drop, take-append-drop, append-nil, ext_get_or, ⊎_elim}
use Rattle.std.specs.Int.{from_be_bytes, to_be_bytes}
use Rattle.std.specs.List.{range_with_len}
use Rattle.std.proofs.lemmas.Bool.{cases_lt}
use Rattle.std.proofs.lemmas.List.{take_at, drop_at, take_all, drop_all, get_or_append_left, get_or-append_right, get_or-take, get_or-drop, length-take-le}
use Rattle.std.proofs.lemmas.List.FromFn.{length-map-range_with_len, get_or-map-range_with_len}
use Rattle.std.proofs.lemmas.Nat.{be_bytes_4, from_be_bytes-to_be_bytes_4}
use Rattle.octets.specs.Octets.{IsOctets, xor_octets}
use Rattle.modes.specs.Cbc.{block}
use Rattle.modes.specs.Ctr.{counter_block, stream_octet, ctr}
use Rattle.modes.specs.Code.Views.{HoldsKeyStream}
use Rattle.modes.specs.declared.ctr.KeyStream.{KeyStream}
use Rattle.modes.proofs.Padding.{at_block}
use borrow.Rule.Slice.PartMut.{put_mid}

-- ---- the counter

module _ (f : List ℕ) (sixteen : length f ≡ 16) where
  twelve : length (take 12 f) ≡ 12
  twelve = length-take-le 12 f (omega (arith, sixteen))

  add_modulo : (a n k : ℕ) → ((a + n) % 2 ^ 32 + k) % 2 ^ 32 ≡ (a + (n + k)) % 2 ^ 32
  add_modulo a n k = omega arith

  low : (a : ℕ) → a % 2 ^ 32 < 2 ^ 32
  low a = omega arith

  pub counter_block-add : (n k : ℕ) → counter_block (counter_block f n) k ≡ counter_block f (n + k)
  unfolding counter_block
  counter_block-add n k =
      let a = from_be_bytes w32 (drop 12 f) in
      let x = to_be_bytes w32 ((a + n) % 2 ^ 32) in
      let number : from_be_bytes w32 (drop 12 (take 12 f ++ x)) ≡ (a + n) % 2 ^ 32 =
      ap (from_be_bytes w32) (drop_at (take 12 f) x 12 twelve) ∙ from_be_bytes-to_be_bytes_4 ((a + n) % 2 ^ 32) (low (a + n)) in
      ap₂ (λ s m. s ++ to_be_bytes w32 ((m + k) % 2 ^ 32)) (take_at (take 12 f) x 12 twelve) number
      ∙ ap (λ m. take 12 f ++ to_be_bytes w32 m) (add_modulo a n k)

  pub counter_block-none : IsOctets f → counter_block f 0 ≡ f
  unfolding counter_block
  counter_block-none octets =
      let rest = drop 12 f in
      let four : length rest ≡ 4 = omega (arith, length-drop 12 f, sixteen) in
      let small : (i : ℕ) → get_or rest i 0 < 256 = λ i. subst (λ v. v < 256) (sym (get_or-drop 12 f i 0)) (octets (12 + i)) in
      let number : from_be_bytes w32 rest < 2 ^ 32 = search rules in
      ap (λ s. take 12 f ++ s) (be_bytes_4 rest ((from_be_bytes w32 rest + 0) % 2 ^ 32) four small (omega (arith, number)))
      ∙ take-append-drop 12 f

-- ---- the key stream

-- The first octets of the ciphertext are those of the beginning, and each later octet has its own octet of the key stream.
module _ (e : List ℕ → List ℕ) (f p q : List ℕ) where
  pub length-ctr : (x : List ℕ) → length (ctr e f x) ≡ length x
  unfolding ctr
  length-ctr x = length-map-range_with_len (λ i. bit_xor (slice_index x i) (stream_octet e f i)) 0 (length x)

  pub octet-ctr : (x : List ℕ) (i : ℕ) → i < length x → get_or (ctr e f x) i 0 ≡ bit_xor (slice_index x i) (stream_octet e f i)
  unfolding ctr
  octet-ctr x i l = get_or-map-range_with_len (λ i. bit_xor (slice_index x i) (stream_octet e f i)) 0 (length x) i i 0 l (omega arith)

  -- After p, the ciphertext of q is added.
  pub ctr-append : (x : List ℕ) → length x ≡ length q → ((i : ℕ) → i < length q → get_or x i 0 ≡ bit_xor (slice_index q i) (stream_octet e f (length p + i)))
      → ctr e f (p ++ q) ≡ ctr e f p ++ x
  ctr-append x long own = ext_get_or 0 (ctr e f (p ++ q)) (ctr e f p ++ x)
      (length-ctr (p ++ q) ∙ length-append p q ∙ sym (length-append (ctr e f p) x ∙ ap₂ (λ m n. m + n) (length-ctr p) long))
      (λ i l.
      let within : i < length p + length q = subst (λ n. i < n) (length-ctr (p ++ q) ∙ length-append p q) l in
      octet-ctr (p ++ q) i (subst (λ n. i < n) (length-ctr (p ++ q)) l)
      ∙ ⊎_elim
      (λ (a : i < length p).
      ap (λ v. bit_xor v (stream_octet e f i)) (get_or_append_left p q 0 i a)
      ∙ sym (octet-ctr p i a)
      ∙ sym (get_or_append_left (ctr e f p) x 0 i (subst (λ n. i < n) (sym (length-ctr p)) a)))
      (λ (b : length p ≤ i).
      let back : length p + (i - length p) ≡ i = omega arith in
      ap₂ bit_xor (get_or-append_right p q (length p) i 0 refl b) (ap (stream_octet e f) (sym back))
      ∙ sym (own (i - length p) (omega (arith, within, b)))
      ∙ sym (get_or-append_right (ctr e f p) x (length p) i 0 (length-ctr p) b))
      (cases_lt i (length p)))

-- The ciphertext of q is q plus the octets of s from octet u on, if these are the next ones of the key stream.
pub with_stream : (e : List ℕ → List ℕ) (f p q s : List ℕ) (u : ℕ) → ((i : ℕ) → i < length q → slice_index s (u + i) ≡ stream_octet e f (length p + i))
    → ctr e f (p ++ q) ≡ ctr e f p ++ xor_octets q (take (length q) (drop u s))
unfolding xor_octets
with_stream e f p q s u next =
    let part = take (length q) (drop u s) in
    ctr-append e f p q (map (λ i. bit_xor (slice_index q i) (slice_index part i)) (range_with_len 0 (length q)))
    (length-map-range_with_len (λ i. bit_xor (slice_index q i) (slice_index part i)) 0 (length q))
    (λ i l.
    get_or-map-range_with_len (λ i. bit_xor (slice_index q i) (slice_index part i)) 0 (length q) i i 0 l (omega arith)
    ∙ ap (bit_xor (slice_index q i))
    (get_or-take (length q) (drop u s) i 0 l
    ∙ get_or-drop u s i 0
    ∙ next i l))

-- The counter is increased by overwriting its last four octets.
pub counted_up : (u four y : List ℕ) (n : ℕ) → length u ≡ 16 → four ≡ take 4 (drop 12 u) → n ≡ from_be_bytes w32 four → y ≡ to_be_bytes w32 ((n + 1) % 2 ^ 32)
    → put_mid 12 4 u y ≡ counter_block u 1
unfolding counter_block
counted_up u four y n sixteen is_four is_n is_y =
    let rest : length (drop 12 u) ≡ 4 = omega (arith, length-drop 12 u, sixteen) in
    let number : n ≡ from_be_bytes w32 (drop 12 u) = is_n ∙ ap (from_be_bytes w32) (is_four ∙ take_all 4 (drop 12 u) (omega (arith, rest))) in
    ap (λ t. take 12 u ++ (y ++ t)) (drop_all 4 (drop 12 u) (omega (arith, rest)))
    ∙ ap (λ t. take 12 u ++ t) (append-nil y ∙ is_y ∙ ap (λ m. to_be_bytes w32 ((m + 1) % 2 ^ 32)) number)

-- ---- the steps of the code after a text p

module _ (e : List ℕ → List ℕ) (f p : List ℕ) where
  -- If all blocks are used, the blocks from place n on are made again.
  pub made_anew : (s t : KeyStream) (n : ℕ) → s.used ≡ 256 → n < 16 → HoldsKeyStream s e f p → t.used ≡ 16 * n
      → ((m : ℕ) → s.counter ≡ counter_block f m → t.counter ≡ counter_block f (m + (16 - n)))
      → ((m : ℕ) → s.counter ≡ counter_block f m → (i : ℕ) → n ≤ i → i < 16 → block t.blocks i ≡ e (counter_block f (m + (i - n))))
      → HoldsKeyStream t e f p
  made_anew s t n full within k used counter blocks =
      let m = length p / 16 in
      let even : length p ≡ 16 * m = omega (arith, full, k.whole) in
      let at : s.counter ≡ counter_block f m = k.counter ∙ ap (counter_block f) (let d : (length p + (256 - s.used)) / 16 ≡ m = omega (arith, full) in d) in
      record {
        sixteen = k.sixteen;
        whole = omega (arith, used, even, within);
        counter = counter m at ∙ ap (counter_block f) (let d : m + (16 - n) ≡ (length p + (256 - t.used)) / 16 = omega (arith, used, even, within) in d);
        blocks = λ i l.
            ap (slice_index t.blocks) (let d : t.used + i ≡ 16 * (n + i / 16) + i % 16 = omega (arith, used) in d)
            ∙ sym (at_block t.blocks (n + i / 16) (i % 16) (omega arith))
            ∙ ap (λ b. slice_index b (i % 16))
            (blocks m at (n + i / 16) (omega arith) (omega (arith, l, used, within))
            ∙ ap (λ j. e (counter_block f j)) (let d : m + (n + i / 16 - n) ≡ (length p + i) / 16 = omega (arith, even) in d))
            ∙ ap (slice_index (e (counter_block f ((length p + i) / 16)))) (let d : i % 16 ≡ (length p + i) % 16 = omega (arith, even) in d);
      }

  -- The octets of q are counted as used.
  pub counts_on : (s t : KeyStream) (q : List ℕ) → HoldsKeyStream s e f p → s.used + length q ≤ 256
      → t.blocks ≡ s.blocks → t.counter ≡ s.counter → t.used ≡ s.used + length q → HoldsKeyStream t e f (p ++ q)
  counts_on s t q k room blocks counter used =
      let long = length-append p q in
      let same : length (p ++ q) + (256 - t.used) ≡ length p + (256 - s.used) = omega (arith, long, room, used) in
      record {
        sixteen = k.sixteen;
        whole = ap (λ n. n % 16) same ∙ k.whole;
        counter = counter ∙ k.counter ∙ ap (λ n. counter_block f (n / 16)) (sym same);
        blocks = λ i l.
            ap₂ slice_index blocks (let d : t.used + i ≡ s.used + (length q + i) = omega (arith, used) in d)
            ∙ k.blocks (length q + i) (omega (arith, l, used, room))
            ∙ ap (stream_octet e f) (let d : length p + (length q + i) ≡ length (p ++ q) + i = omega (arith, long) in d);
      }
