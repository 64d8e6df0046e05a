use Rattle.std.proofs.Common.{◌≡◌, ◌∙◌, Ok, ap, sym}
use Rattle.keys.specs.Generating.{gen_answer}
use Rattle.keys.specs.Limits.{limits}
use Rattle.octets.specs.Devices.{appended}
use Rattle.octets.proofs.Lemmas.{on_success, on_refusal, seen_possible, agrees_last, appended-append}
use Rattle.jose.proofs.Agreement.{refused}
use Rattle.jose.proofs.Draws.{key_drawn, key_drawn_at_most, making_refused}
use Rattle.jose.proofs.commands.jwk.write_key.Goals as goal

-- ---- the template is refused, or too few octets are drawn

pub returns-in_err-key-clause-answer : goal.returns-in_err-key-clause-answer
returns-in_err-key-clause-answer g c octets octets_may =
    refused _ _ c.in_err-key.field-0.0 c.from_residual.result c.from_residual.ensures.1 (λ inside. c.in_err-key.ensures.answer octets octets_may inside)

pub returns-in_err-key-clause-at_most : goal.returns-in_err-key-clause-at_most
returns-in_err-key-clause-at_most g c =
    key_drawn_at_most g.I.Input.consumed c.args.random.now c.generate.new.random c.args.template.now c.generate.ensures.at_most c.generate.ensures.untouched

pub returns-in_err-key-clause-content_last : goal.returns-in_err-key-clause-content_last
returns-in_err-key-clause-content_last g c refusal is = c.generate.ensures.untouched refusal (making_refused c.args.template.now refusal is)

-- ---- the key is made

pub returns-clause-answer : goal.returns-clause-answer
returns-clause-answer g c octets octets_may =
    let old = g.O.Output.written c.args.out.now in
    agrees_last _ _ c.emit.result c.emit.ensures.all c.emit.ensures.cause
    (λ all. c.in_ok-key.ensures.answer octets octets_may
    ∙ ap Ok (sym (ap (appended old) all ∙ appended-append old c.as_bytes.result.now ∙ c.as_bytes.ensures.value)))

pub returns-clause-drawn : goal.returns-clause-drawn
returns-clause-drawn g c = on_success c.emit.result c.emit.ensures.finished
    (λ done. key_drawn g.I.Input.consumed c.args.random.now c.generate.new.random c.args.template.now c.in_ok-key.ensures.drawn c.generate.ensures.untouched)

pub returns-clause-at_most : goal.returns-clause-at_most
returns-clause-at_most g c =
    key_drawn_at_most g.I.Input.consumed c.args.random.now c.generate.new.random c.args.template.now c.generate.ensures.at_most c.generate.ensures.untouched

pub returns-clause-beginning : goal.returns-clause-beginning
returns-clause-beginning g c =
    let random = appended (g.I.Input.consumed c.args.random.now) (g.I.Input.consumed c.generate.new.random) in
    let made : gen_answer limits c.args.template.now random ≡ Ok c.as_bytes.result.now =
    c.in_ok-key.ensures.answer random (seen_possible g.I.Input.consumed g.I.Input.is_at_end c.args.random.now c.generate.new.random)
    ∙ ap Ok (sym c.as_bytes.ensures.value)
    in
    on_refusal c.emit.result c.emit.ensures.part (λ part. rw made part)

pub returns-clause-content_last : goal.returns-clause-content_last
returns-clause-content_last g c refusal is = c.generate.ensures.untouched refusal (making_refused c.args.template.now refusal is)
