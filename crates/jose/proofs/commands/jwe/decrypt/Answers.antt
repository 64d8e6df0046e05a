use Rattle.jose.specs.Invocations.{settings_view}
use Rattle.jose.proofs.Doing.{not_read, reader_of, wrote_whole}
use Rattle.jose.proofs.Rows.{dec_is}
use Rattle.jose.proofs.commands.jwe.decrypt.Goals as goal

pub returns-in_err-whole : goal.returns-in_err-whole
returns-in_err-whole g c =
    let is = dec_is (settings_view c.args.invocation.now.options.items) _ c.has.ensures in
    rw c.requires.command (not_read _ _ (reader_of is) c.in_err-whole.ensures c.from_residual.result c.from_residual.ensures.1)

pub returns : goal.returns
returns g c =
    let is = dec_is (settings_view c.args.invocation.now.options.items) _ c.has.ensures in
    rw c.requires.command (wrote_whole c.write_plaintext.result is c.in_ok-whole.ensures c.write_plaintext.ensures)
