use Rattle.std.proofs.Common.{rules, Ok, refl, sym, ◌∙◌, ap}
use Rattle.octets.specs.Devices.{appended}
use Rattle.octets.specs.Encoding.{encoding}
use Rattle.octets.proofs.Lemmas.{encoding_grows, at_refusal, seen_possible, keeps_up, passed_on, whole_stands}
use Rattle.jose.proofs.commands.b64.encode_content.Goals as goal

pub returns-in_err-pump-clause-answer : goal.returns-in_err-pump-clause-answer
returns-in_err-pump-clause-answer g c whole possible =
    passed_on _ _ c.from_residual.result c.in_err-pump.field-0.0 (search rules)
    (λ inside. c.in_err-pump.ensures.answer tt whole c.start.ensures possible inside)

pub returns-in_err-pump-clause-beginning : goal.returns-in_err-pump-clause-beginning
returns-in_err-pump-clause-beginning g c = at_refusal _ (c.in_err-pump.ensures.beginning tt c.start.ensures encoding_grows)

pub returns-in_err-pump-clause-keeps_up : goal.returns-in_err-pump-clause-keeps_up
returns-in_err-pump-clause-keeps_up g c is some =
    let consumed = g.I.Input.consumed in
    let written = g.O.Output.written in
    let p = appended (consumed c.args.content.now) (consumed c.pump.new.content) in
    keeps_up encoding encoding_grows encoding.fixed (λ q. refl) p (written c.args.out.now) (written c.pump.new.out)
    (c.pump.ensures.stands tt c.start.ensures (search rules) some)

pub returns-in_err-finish-clause-beginning : goal.returns-in_err-finish-clause-beginning
returns-in_err-finish-clause-beginning g c =
    let consumed = g.I.Input.consumed in
    let written = g.O.Output.written in
    let whole = c.in_ok-pump.ensures.answer tt (appended (consumed c.args.content.now) (consumed c.pump.new.content)) c.start.ensures
    (seen_possible consumed g.I.Input.is_at_end c.args.content.now c.pump.new.content) in
    at_refusal _ (whole_stands encoding (consumed c.args.content.now) (consumed c.pump.new.content) (written c.args.out.now) (written c.pump.new.out)
    (written c.finish.new.self) (g.I.Input.is_at_end c.pump.new.content)
    c.in_ok-pump.ensures.ends whole c.in_ok-pump.ensures.extends c.finish.ensures.does.same)

pub returns-clause-answer : goal.returns-clause-answer
returns-clause-answer g c whole possible =
    c.in_ok-pump.ensures.answer tt whole c.start.ensures possible ∙ ap (λ l. Ok (appended (g.O.Output.written c.args.out.now) l)) (sym c.finish.ensures.does.same)
