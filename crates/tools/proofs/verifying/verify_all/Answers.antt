use Rattle.std.proofs.Common.{◌≡◌, ◌∙◌, true, false, sym}
use Rattle.jose.specs.Invocations.{settings_view}
use Rattle.jose.specs.Meanings.{is_content_given, is_content_wanted}
use Rattle.tools.proofs.Verified.{in_one_pass, not_read, wrote_all}
use Rattle.tools.proofs.verifying.verify_all.Goals as goal

pub returns-then-not-payload_wanted : goal.returns-then-not-payload_wanted
returns-then-not-payload_wanted g c =
    let e = c.verify_in_one_pass.ensures in
    let settings = settings_view c.args.invocation.now.options.items in
    let given : true ≡ is_content_given settings = sym c.if-detached_given.true ∙ c.has-detached_given.ensures in
    let wanted : false ≡ is_content_wanted settings = sym c.if-not-payload_wanted.true ∙ c.has-payload_wanted.ensures in
    in_one_pass _ _ c.verify_in_one_pass.result given wanted e.answer e.cause e.in_order e.reads_first e.faults

pub returns-in_err-whole : goal.returns-in_err-whole
returns-in_err-whole g c = not_read _ _ c.from_residual.result c.has-detached_given.ensures c.in_err-whole.ensures c.from_residual.ensures.1

pub returns : goal.returns
returns g c = wrote_all c.write_verified.result c.has-detached_given.ensures c.has-payload_wanted.ensures c.in_ok-whole.ensures
    c.write_verified.ensures.writes c.write_verified.ensures.cause
