use Rattle.std.proofs.Common.{◌*◌, ◌/◌, ◌++◌, length, sym, ap, ◌∙◌, subst}
use Rattle.ciphers.specs.KeyWrap.{initial_value}
use Rattle.ciphers.specs.Code.Views.{IsRow}
use Rattle.ciphers.proofs.Table.{first_row, wrapped_of_row}
use Rattle.ciphers.proofs.key_wrap.wrap.Goals as goal

pub returns : goal.returns
returns g c =
    let e = g.B.Block.encrypted c.args.kek.now in
    let p = c.args.key_data.now in
    let copied = c.copy_from_slice.ensures.after in
    let last = c.wrap_registers.ensures p (subst (IsRow e p 0 initial_value) (sym copied) (first_row e p)) in
    ap (λ a. a ++ c.wrap_registers.new.r) c.copy_from_slice-2.ensures.after
    ∙ wrapped_of_row e p c.wrap_registers.new.a c.wrap_registers.new.r c.requires.parts
    (subst (λ r. IsRow e p (6 * (length r / 8)) c.wrap_registers.new.a c.wrap_registers.new.r) copied last)
