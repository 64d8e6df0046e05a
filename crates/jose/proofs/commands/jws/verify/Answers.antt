use Rattle.std.proofs.Common.{◌≡◌, ◌∙◌, true, false, sym}
use Rattle.jose.specs.Invocations.{settings_view}
use Rattle.jose.proofs.Doing.{not_read, reader_of, wrote_whole}
use Rattle.jose.proofs.Rows.{is_given, ver_is}
use Rattle.jose.proofs.OnePass.{verified_in_one_pass}
use Rattle.jose.proofs.commands.jws.verify.Goals as goal

pub returns-then-not-payload_wanted : goal.returns-then-not-payload_wanted
returns-then-not-payload_wanted g c =
    let e = c.verify_in_one_pass.ensures in
    let given : true ≡ is_given "I" (settings_view c.args.invocation.now.options.items) = sym c.if-detached_given.true ∙ c.has-detached_given.ensures in
    let wanted : false ≡ is_given "O" (settings_view c.args.invocation.now.options.items) = sym c.if-not-payload_wanted.true ∙ c.has-payload_wanted.ensures in
    let is = ver_is (settings_view c.args.invocation.now.options.items) true _ false given c.has-all.ensures wanted in
    rw c.requires.command (verified_in_one_pass _ _ _ c.verify_in_one_pass.result is e.answer e.in_order e.reads_first e.faults)

pub returns-in_err-whole : goal.returns-in_err-whole
returns-in_err-whole g c =
    let is = ver_is (settings_view c.args.invocation.now.options.items) _ _ _ c.has-detached_given.ensures c.has-all.ensures c.has-payload_wanted.ensures in
    rw c.requires.command (not_read _ _ (reader_of is) c.in_err-whole.ensures c.from_residual.result c.from_residual.ensures.1)

pub returns : goal.returns
returns g c =
    let is = ver_is (settings_view c.args.invocation.now.options.items) _ _ _ c.has-detached_given.ensures c.has-all.ensures c.has-payload_wanted.ensures in
    rw c.requires.command (wrote_whole c.write_verified.result is c.in_ok-whole.ensures c.write_verified.ensures)
