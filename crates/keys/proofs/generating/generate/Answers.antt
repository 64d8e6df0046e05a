use Rattle.std.proofs.Common.{◌≡◌, ◌∙◌, Err, ap, length, drop, arith, refl, rules}
use Rattle.std.proofs.lemmas.Grind.{common_steps}
use Rattle.std.proofs.lemmas.List.{drop_at}
use Rattle.keys.specs.Code.Views.{plan_view}
use Rattle.keys.proofs.GenAnswer.{template_refused, draw_refused, text_made}
use Rattle.keys.proofs.generating.generate.Goals as goal

pub returns-in_err-plan-clause-answer : goal.returns-in_err-plan-clause-answer
returns-in_err-plan-clause-answer g c octets _ =
    let is : c.from_residual.result ≡ Err c.in_err-plan.field-0.0 = search rules in
    template_refused plan_view c.args.template.now octets _ c.from_residual.result is c.in_err-plan.ensures.exact

pub returns-in_err-draw-clause-answer : goal.returns-in_err-draw-clause-answer
returns-in_err-draw-clause-answer g c octets possible =
    let is : c.from_residual-in_err-draw.result ≡ Err c.in_err-draw.field-0.0 = search rules in
    draw_refused c.args.template.now octets (plan_view c.in_ok-plan.plan) _ _ _ _ _ c.from_residual-in_err-draw.result is c.in_ok-plan.ensures.exact
    (grind (arith, common_steps)) c.in_err-draw.ensures.fails possible

pub returns-clause-answer : goal.returns-clause-answer
returns-clause-answer g c octets possible =
    let len : length c.draw.new.out ≡ c.in_ok-plan.plan.len = grind (arith, common_steps) in
    let consumed = g.R.Input.consumed in
    let drawn : drop (length (consumed c.args.random.now)) (consumed c.draw.new.random) ≡ c.draw.new.out =
    ap (drop (length (consumed c.args.random.now))) c.in_ok-draw.ensures.octets ∙ drop_at (consumed c.args.random.now) c.draw.new.out _ refl in
    text_made c.args.template.now octets c.draw.new.out (plan_view c.in_ok-plan.plan) _ c.key_text.result c.in_ok-plan.ensures.exact len drawn
    c.key_text.ensures.text c.key_text.ensures.memory possible
