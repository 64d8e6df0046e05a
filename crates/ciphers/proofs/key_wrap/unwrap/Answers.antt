use Rattle.std.proofs.Common.{rules, ◌≡◌, ◌≢◌, ℕ, ◌+◌, ◌-◌, ◌*◌, ◌/◌, List, ◌++◌, length, take, drop, sym, ap, ap₂, ◌∙◌, subst, arith, take-append-drop, length-take, length-drop}
use Rattle.std.proofs.lemmas.List.{take_all}
use Rattle.ciphers.specs.KeyWrap.{initial_value, IsKeyData, IsUnwrapping}
use Rattle.ciphers.specs.Code.Views.{IsRow}
use Rattle.ciphers.proofs.Table.{first_row, first_row_check, wrapped_of_row}
use Rattle.ciphers.proofs.Unwrapping.{last_row, unwrapping_long}
use Rattle.ciphers.proofs.key_wrap.unwrap.Goals as goal

-- The steps start from the wrapped text.
module _ (w a r : List ℕ) (front : a ≡ take 8 w) (back : r ≡ take (length w - 8) (drop 8 w)) where
  text : a ++ r ≡ w
  text =
      ap₂ (λ x y. x ++ y) front (back ∙ take_all (length w - 8) (drop 8 w) (omega (arith, length-drop 8 w)))
      ∙ take-append-drop 8 w

rest : (n : ℕ) (w : List ℕ) → length w ≡ n + 8 → length (take (length w - 8) (drop 8 w)) ≡ n
rest n w h = length-take (length w - 8) (drop 8 w) ∙ omega (arith, h, length-drop 8 w)

pub returns-then-not-is_initial-clause-nothing : goal.returns-then-not-is_initial-clause-nothing
returns-then-not-is_initial-clause-nothing g c p u =
    let e = g.B.Block.encrypted c.args.kek.now in
    let d = g.B.Block.decrypted c.args.kek.now in
    let law = g.met.B.Block.is_cipher c.args.kek.now in
    let a = c.copy_from_slice.new.self in
    let r = c.copy_from_slice-2.new.self in
    let whole = text c.args.wrapped.now a r c.copy_from_slice.ensures.after c.copy_from_slice-2.ensures.after in
    let long : length r ≡ length p = ap length c.copy_from_slice-2.ensures.after
    ∙ rest (length p) c.args.wrapped.now (unwrapping_long e d law c.args.wrapped.now p u) in
    let last = last_row e d law p a r c.copy_from_slice.ensures.len (subst (λ x. IsUnwrapping e x p) (sym whole) u) long in
    let first = c.unwrap_registers.ensures.back p u.key_data.octets (subst (λ n. IsRow e p (6 * (n / 8)) a r) (sym long) last) in
    let other : c.unwrap_registers.new.a ≢ initial_value = search (rules, c.is_initial.ensures) in
    other (first_row_check e p c.unwrap_registers.new.a c.unwrap_registers.new.r first)

pub returns-clause-unwraps : goal.returns-clause-unwraps
returns-clause-unwraps g c =
    let e = g.B.Block.encrypted c.args.kek.now in
    let p = c.copy_from_slice-3.new.self in
    let a = c.copy_from_slice.new.self in
    let r = c.copy_from_slice-2.new.self in
    let whole = text c.args.wrapped.now a r c.copy_from_slice.ensures.after c.copy_from_slice-2.ensures.after in
    let same : c.unwrap_registers.new.a ≡ initial_value = search (rules, c.is_initial.ensures) in
    let first = subst (λ x. IsRow e p 0 x c.unwrap_registers.new.r) (sym same)
    (subst (λ x. IsRow e p 0 initial_value x) c.copy_from_slice-3.ensures.after (first_row e p)) in
    let last = c.unwrap_registers.ensures.forth p first in
    let long : length p ≡ length c.args.out.now = c.copy_from_slice-3.ensures.len in
    let key_data : IsKeyData p = record {
      octets = λ i. search (rules, c.type_inv.out i);
      parts = omega (arith, c.requires, long);
      two = omega (arith, c.requires, long);
    } in
    record {
      key_data = key_data;
      wraps = sym (wrapped_of_row e p a r key_data.parts (subst (λ n. IsRow e p (6 * (n / 8)) a r) last.long last)) ∙ whole;
    }
