use Rattle.std.proofs.Common.{refl}
use Rattle.jose.specs.Invocations.{settings_view}
use Rattle.jose.proofs.Doing.{not_read, reader_of, wrote_whole}
use Rattle.jose.proofs.Rows.{jwe_fmt_is}
use Rattle.jose.proofs.commands.jwe.format.Goals as goal

pub returns-in_err-whole : goal.returns-in_err-whole
returns-in_err-whole g c =
    let is = jwe_fmt_is (settings_view c.args.invocation.now.options.items) _ _ _ c.has.ensures refl refl in
    rw c.requires.command (not_read _ _ (reader_of is) c.in_err-whole.ensures c.from_residual.result c.from_residual.ensures.1)

pub returns : goal.returns
returns g c =
    let is = jwe_fmt_is (settings_view c.args.invocation.now.options.items) _ _ _ c.has.ensures c.has-2.ensures c.has-3.ensures in
    rw c.requires.command (wrote_whole c.write_formed.result is c.in_ok-whole.ensures c.write_formed.ensures)
