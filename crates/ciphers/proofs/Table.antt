-- The table of the key wrap: from one row to the next, and back.
use Rattle.std.proofs.Common.{◌≡◌, ◌≢◌, ℕ, zero, suc, ◌+◌, ◌-◌, ◌*◌, ◌/◌, ◌%◌, ◌^◌, ◌<◌, ◌≤◌, ◌==◌, Bool, true, false, if◌then◌else◌, List, ◌++◌, length, take, drop, map, sym, ap, ap₂, subst, ◌∙◌, arith, rules, refl, ⊎_elim}
use Rattle.std.specs.List.{between, range_with_len, concat}
use Rattle.std.proofs.lemmas.Bool.{cases_eq, cond-true, cond-false, eq-eqb, ne_eqb}
use Rattle.std.proofs.lemmas.List.{take_at, drop_at, take-append-drop}
use Rattle.aes.specs.Block.{IsBlock, IsCipher}
use Rattle.octets.specs.Octets.{IsOctets}
use Rattle.ciphers.specs.KeyWrap.{initial_value, xor_count, part, table, wrapped}
use Rattle.ciphers.specs.Code.Views.{IsRow}
use Rattle.octets.proofs.Lemmas.{chunk_is, chunk_written, length-written, chunk_kept, chunks_joined, same_chunks, length-joined, chunk-joined}
use Rattle.ciphers.proofs.Halves.{IsHalf, block_of_halves, part_is_half, front_half, back_half, count_is_half, count_twice}
use borrow.Rule.Slice.PartMut.{put_mid}

-- ---- one step of the table

module _ (e : List ℕ → List ℕ) (p : List ℕ) (t i : ℕ) (turn : i ≡ t % (length p / 8)) where
  pub enciphered : List ℕ
  enciphered = e (table e p t 0 ++ table e p t (suc i))

  pub table_check : table e p (suc t) 0 ≡ xor_count (suc t) (take 8 enciphered)
  unfolding table enciphered
  table_check = ap (λ k. xor_count (suc t) (take 8 (e (table e p t 0 ++ table e p t (suc k))))) (sym turn)

  pub table_turn : table e p (suc t) (suc i) ≡ drop 8 enciphered
  unfolding table enciphered
  table_turn = cond-true (i == t % (length p / 8)) _ _ (eq-eqb i (t % (length p / 8)) turn)

  pub table_kept : (j : ℕ) → j ≢ i → table e p (suc t) (suc j) ≡ table e p t (suc j)
  unfolding table
  table_kept j ne = cond-false (j == t % (length p / 8)) _ _ (ne_eqb j (t % (length p / 8)) (λ same. ne (same ∙ sym turn)))

-- ---- the columns of the table

half_either : (b : Bool) (x y : List ℕ) → IsHalf x → IsHalf y → IsHalf (if b then x else y)
half_either true x y h k = h
half_either false x y h k = k

-- Each part is within the list.
pub within : (p : List ℕ) (i : ℕ) → i < length p / 8 → 8 * i + 8 ≤ length p
within p i l = omega arith

pub turn_within : (p : List ℕ) (t : ℕ) → 16 ≤ length p → t % (length p / 8) < length p / 8
turn_within p t h = search (rules, arith)

module _ (e d : List ℕ → List ℕ) (law : IsCipher e d) where
  image : (a r : List ℕ) → IsHalf a → IsHalf r → IsBlock (e (a ++ r))
  image a r x y = law.gives_block (a ++ r) (block_of_halves a r x y)

  module _ (p : List ℕ) (octets : IsOctets p) (two : 16 ≤ length p) where
    pub table_is_half : (t k : ℕ) → k ≤ length p / 8 → IsHalf (table e p t k)
    unfolding table
    table_is_half zero zero l = record { eight = refl; octets = λ i. search rules }
    table_is_half zero (suc i) l = part_is_half p i octets (within p i (omega arith))
    table_is_half (suc t) zero l = count_is_half (suc t) _
    table_is_half (suc t) (suc i) l =
        half_either (i == t % (length p / 8)) _ _
        (back_half _ (image _ _ (table_is_half t 0 (omega arith)) (table_is_half t (suc i) l)))
        (table_is_half t (suc i) l)

    -- ---- the wrapped text is the last row

    halves : (t k : ℕ) → k < suc (length p / 8) → length (table e p t (0 + k)) ≡ 8
    halves t k l = ap (λ m. length (table e p t m)) (let e : 0 + k ≡ k = omega arith in e) ∙ (table_is_half t k (omega arith)).eight

    pub length-wrapped : length p % 8 ≡ 0 → length (wrapped e p) ≡ length p + 8
    unfolding wrapped
    length-wrapped h = length-joined 8 (table e p (6 * (length p / 8))) (suc (length p / 8)) 0 (halves (6 * (length p / 8))) ∙ omega (arith, h)

    pub row_of_wrapped : (a r : List ℕ) → length p % 8 ≡ 0 → length a ≡ 8 → length r ≡ length p → wrapped e p ≡ a ++ r → IsRow e p (6 * (length p / 8)) a r
    unfolding wrapped
    row_of_wrapped a r whole eight long same =
        let f = table e p (6 * (length p / 8)) in
        let n = length p / 8 in
        let rest = concat (map f (range_with_len 1 n)) in
        let first = (table_is_half (6 * n) 0 (omega arith)).eight in
        record {
          long = long;
          check = sym (take_at a r 8 eight) ∙ ap (take 8) (sym same) ∙ take_at (f 0) rest 8 first;
          registers = λ i l.
              ap (λ x. part x i) (sym (drop_at a r 8 eight) ∙ ap (drop 8) (sym same) ∙ drop_at (f 0) rest 8 first)
              ∙ chunk-joined 8 f n 1 i (λ k h. (table_is_half (6 * n) (1 + k) (omega arith)).eight) l
              ∙ ap f (let e : 1 + i ≡ suc i = omega arith in e);
        }

-- ---- the first row and the last

pub wrapped_of_row : (e : List ℕ → List ℕ) (p a r : List ℕ) → length p % 8 ≡ 0 → IsRow e p (6 * (length p / 8)) a r → a ++ r ≡ wrapped e p
unfolding wrapped
wrapped_of_row e p a r whole row =
    let f = table e p (6 * (length p / 8)) in
    ap₂ (λ s t. s ++ t) row.check (sym (chunks_joined 8 f (length p / 8) 1 r (row.long ∙ omega (arith, whole))
    (λ i l. row.registers i l ∙ ap f (let e : suc i ≡ 1 + i = omega arith in e))))

pub first_row : (e : List ℕ → List ℕ) (p : List ℕ) → IsRow e p 0 initial_value p
unfolding table
first_row e p = record { long = refl; check = refl; registers = λ i l. refl }

pub first_row_is : (e : List ℕ → List ℕ) (p a r : List ℕ) → length p % 8 ≡ 0 → IsRow e p 0 a r → r ≡ p
unfolding table
first_row_is e p a r whole row = same_chunks 8 (length p / 8) r p (row.long ∙ omega (arith, whole)) (omega (arith, whole)) row.registers

-- ---- from a row to the next, and back

module _ (e : List ℕ → List ℕ) (p : List ℕ) (t i : ℕ) (turn : i ≡ t % (length p / 8)) (two : 16 ≤ length p) where
  in_range : i < length p / 8
  in_range = subst (λ k. k < length p / 8) (sym turn) (turn_within p t two)

  -- Step t + 1 of wrapping leads to the next row.
  pub next_row : (a r a' r' : List ℕ) → IsRow e p t a r → length r' ≡ 8
      → a' ≡ xor_count (suc t) (take 8 (e (a ++ part r i))) → r' ≡ drop 8 (e (a ++ part r i))
      → IsRow e p (suc t) a' (put_mid (8 * i) 8 r r')
  unfolding enciphered
  next_row a r a' r' row eight is_a is_r =
      let room = subst (λ n. 8 * i + 8 ≤ n) (sym row.long) (within p i in_range) in
      let same : e (a ++ part r i) ≡ enciphered e p t i turn = ap₂ (λ x y. e (x ++ y)) row.check (row.registers i in_range) in
      record {
        long = length-written 8 r r' i 8 refl room eight ∙ row.long;
        check = is_a ∙ ap (λ b. xor_count (suc t) (take 8 b)) same ∙ sym (table_check e p t i turn);
        registers = λ j l. ⊎_elim
            (λ (s : j ≡ i). ap (part (put_mid (8 * i) 8 r r')) s ∙ chunk_written 8 r r' i 8 refl room eight ∙ is_r ∙ ap (drop 8) same
            ∙ sym (table_turn e p t i turn) ∙ ap (λ k. table e p (suc t) (suc k)) (sym s))
            (λ ne. chunk_kept 8 r r' i 8 refl room eight j ne ∙ row.registers j l ∙ sym (table_kept e p t i turn j ne))
            (cases_eq j i);
      }

  module _ (d : List ℕ → List ℕ) (law : IsCipher e d) (few : suc t < 2 ^ 64) where
    -- Step t + 1 of unwrapping leads from a row of the table to the previous one.
    pub previous_row : IsOctets p → (a r a' r' : List ℕ) → IsRow e p (suc t) a r
        → a' ≡ take 8 (d (xor_count (suc t) a ++ part r i)) → r' ≡ drop 8 (d (xor_count (suc t) a ++ part r i))
        → IsRow e p t a' (put_mid (8 * i) 8 r r')
    unfolding enciphered
    previous_row octets a r a' r' row is_a is_r =
        let x = table e p t 0 in
        let y = table e p t (suc i) in
        let hx = table_is_half e d law p octets two t 0 (omega arith) in
        let hy = table_is_half e d law p octets two t (suc i) in_range in
        let b = e (x ++ y) in
        let block = law.gives_block (x ++ y) (block_of_halves x y hx hy) in
        let a_is : xor_count (suc t) a ≡ take 8 b =
        ap (xor_count (suc t)) (row.check ∙ table_check e p t i turn) ∙ count_twice (suc t) (take 8 b) (front_half b block) few in
        let back : d (xor_count (suc t) a ++ part r i) ≡ x ++ y =
        ap₂ (λ s u. d (s ++ u)) a_is (row.registers i in_range ∙ table_turn e p t i turn)
        ∙ ap d (take-append-drop 8 b)
        ∙ law.undoes (x ++ y) (block_of_halves x y hx hy) in
        let r_is : r' ≡ y = is_r ∙ ap (drop 8) back ∙ drop_at x y 8 hx.eight in
        let eight : length r' ≡ 8 = ap length r_is ∙ hy.eight in
        let room = subst (λ n. 8 * i + 8 ≤ n) (sym row.long) (within p i in_range) in
        record {
          long = length-written 8 r r' i 8 refl room eight ∙ row.long;
          check = is_a ∙ ap (take 8) back ∙ take_at x y 8 hx.eight;
          registers = λ j l. ⊎_elim
              (λ (s : j ≡ i). ap (part (put_mid (8 * i) 8 r r')) s ∙ chunk_written 8 r r' i 8 refl room eight ∙ r_is ∙ ap (λ k. table e p t (suc k)) (sym s))
              (λ ne. chunk_kept 8 r r' i 8 refl room eight j ne ∙ row.registers j l ∙ table_kept e p t i turn j ne)
              (cases_eq j i);
        }

    -- If step t + 1 of unwrapping leads to a row of the table, it started from the next row.
    pub row_after : (a r a' r' : List ℕ) → IsHalf a → IsHalf (part r i) → length r ≡ length p → length r' ≡ 8
        → a' ≡ take 8 (d (xor_count (suc t) a ++ part r i)) → r' ≡ drop 8 (d (xor_count (suc t) a ++ part r i))
        → IsRow e p t a' (put_mid (8 * i) 8 r r') → IsRow e p (suc t) a r
    unfolding enciphered
    row_after a r a' r' ha hr long eight is_a is_r row =
        let c = xor_count (suc t) a in
        let block = block_of_halves c (part r i) (count_is_half (suc t) a) hr in
        let room = subst (λ n. 8 * i + 8 ≤ n) (sym long) (within p i in_range) in
        let y : table e p t (suc i) ≡ r' = sym (row.registers i in_range) ∙ chunk_written 8 r r' i 8 refl room eight in
        let b : e (table e p t 0 ++ table e p t (suc i)) ≡ c ++ part r i =
        ap₂ (λ s u. e (s ++ u)) (sym row.check ∙ is_a) (y ∙ is_r)
        ∙ ap e (take-append-drop 8 (d (c ++ part r i)))
        ∙ law.mirror (c ++ part r i) block in
        record {
          long = long;
          check = sym (count_twice (suc t) a ha few) ∙ ap (xor_count (suc t)) (sym (ap (take 8) b ∙ take_at c (part r i) 8 (count_is_half (suc t) a).eight))
              ∙ sym (table_check e p t i turn);
          registers = λ j l. ⊎_elim
              (λ (s : j ≡ i). ap (part r) s ∙ sym (ap (drop 8) b ∙ drop_at c (part r i) 8 (count_is_half (suc t) a).eight) ∙ sym (table_turn e p t i turn)
              ∙ ap (λ k. table e p (suc t) (suc k)) (sym s))
              (λ ne. sym (chunk_kept 8 r r' i 8 refl room eight j ne) ∙ row.registers j l ∙ sym (table_kept e p t i turn j ne))
              (cases_eq j i);
        }

-- ---- the steps of the code's loops: from t to t + 1 or back, by a write to `r[8 * i..8 * i + 8]`

module _ (e : List ℕ → List ℕ) (p : List ℕ) (t i : ℕ) (turn : i ≡ t % (length p / 8)) (two : 16 ≤ length p) (a r a' r' : List ℕ) (eight : length r' ≡ 8) where
  one_part : 8 ≡ 8 * i + 8 - 8 * i
  one_part = omega arith

  one_more : suc t ≡ t + 1
  one_more = omega arith

  pub row_up : IsRow e p t a r
      → a' ≡ xor_count (t + 1) (take 8 (e (a ++ between (8 * i) (8 * i + 8) r))) → r' ≡ drop 8 (e (a ++ between (8 * i) (8 * i + 8) r))
      → IsRow e p (t + 1) a' (put_mid (8 * i) (8 * i + 8 - 8 * i) r r')
  row_up row is_a is_r =
      let block : e (a ++ between (8 * i) (8 * i + 8) r) ≡ e (a ++ part r i) = ap (λ x. e (a ++ x)) (chunk_is 8 r i) in
      subst (λ n. IsRow e p (t + 1) a' (put_mid (8 * i) n r r')) one_part
      (subst (λ m. IsRow e p m a' (put_mid (8 * i) 8 r r')) one_more
      (next_row e p t i turn two a r a' r' row eight
      (is_a ∙ ap₂ (λ m b. xor_count m (take 8 b)) (sym one_more) block)
      (is_r ∙ ap (drop 8) block)))

  module _ (d : List ℕ → List ℕ) (law : IsCipher e d) (few : t < 6 * 8)
      (is_a : a' ≡ take 8 (d (xor_count (t + 1) a ++ between (8 * i) (8 * i + 8) r)))
      (is_r : r' ≡ drop 8 (d (xor_count (t + 1) a ++ between (8 * i) (8 * i + 8) r))) where
    deciphered : d (xor_count (t + 1) a ++ between (8 * i) (8 * i + 8) r) ≡ d (xor_count (suc t) a ++ part r i)
    deciphered = ap₂ (λ m x. d (xor_count m a ++ x)) (sym one_more) (chunk_is 8 r i)

    pub half_down : IsOctets r → 8 * i + 8 ≤ length r → IsHalf a'
    half_down octets room =
        subst IsHalf (sym (is_a ∙ ap (take 8) deciphered))
        (front_half _ (law.gives_block_back _ (block_of_halves (xor_count (suc t) a) (part r i) (count_is_half (suc t) a) (part_is_half r i octets room))))

    pub row_down : IsOctets p → IsRow e p (t + 1) a r → IsRow e p t a' (put_mid (8 * i) (8 * i + 8 - 8 * i) r r')
    row_down octets row =
        subst (λ n. IsRow e p t a' (put_mid (8 * i) n r r')) one_part
        (previous_row e p t i turn two d law (omega arith) octets a r a' r' (subst (λ m. IsRow e p m a r) (sym one_more) row)
        (is_a ∙ ap (take 8) deciphered) (is_r ∙ ap (drop 8) deciphered))

    pub row_up_again : IsHalf a → IsOctets r → length r ≡ length p → IsRow e p t a' (put_mid (8 * i) (8 * i + 8 - 8 * i) r r') → IsRow e p (t + 1) a r
    row_up_again half octets long row =
        subst (λ m. IsRow e p m a r) one_more
        (row_after e p t i turn two d law (omega arith) a r a' r' half
        (part_is_half r i octets (subst (λ n. 8 * i + 8 ≤ n) (sym long) (within p i (in_range e p t i turn two)))) long eight
        (is_a ∙ ap (take 8) deciphered) (is_r ∙ ap (drop 8) deciphered)
        (subst (λ n. IsRow e p t a' (put_mid (8 * i) n r r')) (sym one_part) row))

pub kept_long : (r r' : List ℕ) (t i : ℕ) → i ≡ t % (length r / 8) → 16 ≤ length r → length r' ≡ 8
    → length (put_mid (8 * i) (8 * i + 8 - 8 * i) r r') ≡ length r
kept_long r r' t i turn two eight =
    let inside : i < length r / 8 = subst (λ k. k < length r / 8) (sym turn) (turn_within r t two) in
    subst (λ n. length (put_mid (8 * i) n r r') ≡ length r) (let e : 8 ≡ 8 * i + 8 - 8 * i = omega arith in e)
    (length-written 8 r r' i 8 refl (within r i inside) eight)

pub first_row_check : (e : List ℕ → List ℕ) (p a r : List ℕ) → IsRow e p 0 a r → a ≡ initial_value
unfolding table
first_row_check e p a r row = row.check
