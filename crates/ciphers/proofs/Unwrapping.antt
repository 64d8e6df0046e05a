-- A text has at most one unwrapping: two tables with the same last row have the same first row.
use Rattle.std.proofs.Common.{◌≡◌, ℕ, zero, suc, ◌+◌, ◌*◌, ◌/◌, ◌%◌, ◌^◌, ◌<◌, ◌≤◌, List, ◌++◌, length, take, drop, sym, ap, subst, ◌∙◌, arith, refl, take-append-drop, length-take, length-drop}
use Rattle.aes.specs.Block.{IsCipher}
use Rattle.ciphers.specs.KeyWrap.{xor_count, part, IsKeyData, IsUnwrapping}
use Rattle.ciphers.specs.Code.Views.{IsRow}
use Rattle.ciphers.proofs.Table.{length-wrapped, row_of_wrapped, first_row_is, previous_row}
use borrow.Rule.Slice.PartMut.{put_mid}

module _ (e d : List ℕ → List ℕ) (law : IsCipher e d) where
  -- The last row of an unwrapping's table is the wrapped text.
  pub last_row : (p a r : List ℕ) → length a ≡ 8 → IsUnwrapping e (a ++ r) p → length r ≡ length p → IsRow e p (6 * (length p / 8)) a r
  last_row p a r eight u long =
      row_of_wrapped e d law p u.key_data.octets u.key_data.two a r u.key_data.parts eight long u.wraps

  pub unwrapping_long : (c p : List ℕ) → IsUnwrapping e c p → length c ≡ length p + 8
  unwrapping_long c p u = ap length (sym u.wraps) ∙ length-wrapped e d law p u.key_data.octets u.key_data.two u.key_data.parts

  down : (p q : List ℕ) → IsKeyData p → IsKeyData q → (t : ℕ) (a r : List ℕ) → t < 2 ^ 64 → IsRow e p t a r → IsRow e q t a r → p ≡ q
  down p q x y zero a r few row other = sym (first_row_is e p a r x.parts row) ∙ first_row_is e q a r y.parts other
  down p q x y (suc t) a r few row other =
      let i = t % (length p / 8) in
      let turn : i ≡ t % (length q / 8) = ap (λ n. t % (n / 8)) (sym row.long ∙ other.long) in
      let b = d (xor_count (suc t) a ++ part r i) in
      down p q x y t (take 8 b) (put_mid (8 * i) 8 r (drop 8 b)) (omega arith)
      (previous_row e p t i refl x.two d law few x.octets a r (take 8 b) (drop 8 b) row refl refl)
      (previous_row e q t i turn y.two d law few y.octets a r (take 8 b) (drop 8 b) other refl refl)

  pub one_unwrapping : (c p q : List ℕ) → length c ≤ 72 → IsUnwrapping e c p → IsUnwrapping e c q → p ≡ q
  one_unwrapping c p q short u v =
      let long = unwrapping_long c p u in
      let other = unwrapping_long c q v in
      let eight : length (take 8 c) ≡ 8 = omega (arith, length-take 8 c, long) in
      let rest : length (drop 8 c) ≡ length p = omega (arith, length-drop 8 c, long) in
      let same : length p ≡ length q = omega (arith, long, other) in
      let whole : take 8 c ++ drop 8 c ≡ c = take-append-drop 8 c in
      down p q u.key_data v.key_data (6 * (length p / 8)) (take 8 c) (drop 8 c) (omega (arith, long, short))
      (last_row p (take 8 c) (drop 8 c) eight (subst (λ x. IsUnwrapping e x p) (sym whole) u) rest)
      (subst (λ n. IsRow e q (6 * (n / 8)) (take 8 c) (drop 8 c)) (sym same)
      (last_row q (take 8 c) (drop 8 c) eight (subst (λ x. IsUnwrapping e x q) (sym whole) v) (rest ∙ same)))
