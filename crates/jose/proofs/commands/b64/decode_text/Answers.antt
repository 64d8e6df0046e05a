use Rattle.std.proofs.Common.{rules, length, Ok, sym, ◌∙◌, ap, subst, arith, length-append}
use Rattle.octets.specs.Devices.{appended, AppendsPrefixOf}
use Rattle.octets.specs.Encoding.{decoding}
use Rattle.octets.specs.Code.Streams.{settling}
use Rattle.octets.proofs.Lemmas.{at_refusal, seen_possible, AppendsPrefixOf-Begins, reading_starts, settling_grows, settling_begins, settling_keeps_up, behind_nothing, beginning_behind_nothing, passed_on, whole_stands}
use Rattle.jose.proofs.commands.b64.decode_text.Goals as goal

pub returns-in_err-pump-clause-answer : goal.returns-in_err-pump-clause-answer
returns-in_err-pump-clause-answer g c whole possible =
    passed_on _ _ c.from_residual.result c.in_err-pump.field-0.0 (search rules)
    (λ inside. sym (behind_nothing settling whole) ∙ c.in_err-pump.ensures.answer tt whole (reading_starts _ c.start.ensures) possible inside)

pub returns-in_err-pump-clause-beginning : goal.returns-in_err-pump-clause-beginning
returns-in_err-pump-clause-beginning g c =
    let consumed = g.I.Input.consumed in
    let written = g.O.Output.written in
    let p = appended (consumed c.args.text.now) (consumed c.pump.new.content) in
    let ended = g.I.Input.is_at_end c.pump.new.content in
    let part = c.in_err-pump.ensures.beginning tt (reading_starts _ c.start.ensures) settling_grows in
    at_refusal _ (AppendsPrefixOf-Begins _ _ (written c.args.out.now) (written c.pump.new.out) (settling_begins p ended)
    (subst (λ t. AppendsPrefixOf t (written c.args.out.now) (written c.pump.new.out)) (beginning_behind_nothing settling p ended) part))

pub returns-in_err-pump-clause-keeps_up : goal.returns-in_err-pump-clause-keeps_up
returns-in_err-pump-clause-keeps_up g c is some =
    let consumed = g.I.Input.consumed in
    let written = g.O.Output.written in
    let p = appended (consumed c.args.text.now) (consumed c.pump.new.content) in
    let exact = c.pump.ensures.stands tt (reading_starts _ c.start.ensures) (search rules) some in
    omega (arith, ap length exact, length-append (written c.args.out.now) (settling.fixed p), settling_keeps_up p)

pub returns-in_err-finish-clause-beginning : goal.returns-in_err-finish-clause-beginning
returns-in_err-finish-clause-beginning g c =
    let consumed = g.I.Input.consumed in
    let written = g.O.Output.written in
    let p = appended (consumed c.args.text.now) (consumed c.pump.new.content) in
    let whole = sym (behind_nothing settling p) ∙ c.in_ok-pump.ensures.answer tt p (reading_starts _ c.start.ensures)
    (seen_possible consumed g.I.Input.is_at_end c.args.text.now c.pump.new.content) in
    at_refusal _ (whole_stands decoding (consumed c.args.text.now) (consumed c.pump.new.content) (written c.args.out.now) (written c.pump.new.out)
    (written c.finish.new.self) (g.I.Input.is_at_end c.pump.new.content)
    c.in_ok-pump.ensures.ends whole c.in_ok-pump.ensures.extends c.finish.ensures.does.same)

pub returns-clause-answer : goal.returns-clause-answer
returns-clause-answer g c whole possible =
    sym (behind_nothing settling whole) ∙ c.in_ok-pump.ensures.answer tt whole (reading_starts _ c.start.ensures) possible
    ∙ ap (λ l. Ok (appended (g.O.Output.written c.args.out.now) l)) (sym c.finish.ensures.does.same)
