use Rattle.std.proofs.Common.{◌≡◌, Bool, is_some, ◌∙◌, Ok, None, Some, false, refl, sym, true}
use Rattle.keys.specs.KeySets.{key_set}
use Rattle.keys.specs.Limits.{limits}
use Rattle.octets.specs.Plan.{by_plan}
use Rattle.octets.proofs.Lemmas.{plan_from-by_plan}
use Rattle.tokens.specs.Signing.{sig_plan}
use Rattle.octets.specs.Devices.{input_members, output_members}
use Rattle.jose.specs.Invocations.{settings_view}
use Rattle.jose.proofs.Doing.{not_read}
use Rattle.jose.proofs.Fixed.{signed_inside}
use Rattle.jose.proofs.Rows.{sig_is, is_given}
use Rattle.jose.proofs.Streamed.{StreamsDrawn, drawn_from_none, keys_refused, streamed, unlent_call}
use Rattle.jose.proofs.commands.jws.sign.Goals as goal

pub returns-in_err-template : goal.returns-in_err-template
returns-in_err-template g c =
    let is = sig_is (settings_view c.args.invocation.now.options.items) _ refl in
    rw c.requires.command (not_read _ _ is.reader c.in_err-template.ensures c.from_residual.result c.from_residual.ensures.1)

pub returns-in_err-set : goal.returns-in_err-set
returns-in_err-set g c =
    let is = sig_is (settings_view c.args.invocation.now.options.items) _ refl in
    rw c.requires.command (keys_refused _ _ is c.in_ok-template.ensures
    (λ memory. let k = c.in_err-set.ensures memory in (rw (← c.deref.ensures.value, k.0) refl, k.1))
    c.from_residual-in_err-set.result c.from_residual-in_err-set.ensures.1)

pub returns-then-has : goal.returns-then-has
returns-then-has g c =
    let options = settings_view c.args.invocation.now.options.items in
    let e = c.jws_sign.ensures in
    let plan = sig_plan limits c.has-compact.result true c.in_ok-set.set c.deref-then-has.result.now in
    let k : key_set limits c.in_ok-template.template.keys.items true ≡ Ok c.in_ok-set.set = rw (← c.deref.ensures.value) c.in_ok-set.ensures in
    let t : c.in_ok-template.template.text.items ≡ c.deref-then-has.result.now = sym c.deref-then-has.ensures.value in
    let wanted : true ≡ is_given "O" options = sym c.if-has.true ∙ c.has.ensures in
    rw c.requires.command (streamed (Some (record { old = c.args.outputs.now.content; new = c.jws_sign.new.detached.0 })) c.jws_sign.result
    (sig_is options true wanted) c.in_ok-template.ensures
    (rw (k, t, ← c.has-compact.ensures, ← wanted) refl) (plan_from-by_plan plan) (λ none. refl) (λ none. cc) refl
    (drawn_from_none plan _ _ _ _ _ _ _ e.streams e.faults))

pub returns : goal.returns
returns g c =
    let options = settings_view c.args.invocation.now.options.items in
    let consumed = g.I.Input.consumed in
    let e = c.jws_sign-else-has.ensures in
    let plan_by = λ (detach : Bool). sig_plan limits c.has-compact.result detach c.in_ok-set.set c.deref-else-has.result.now in
    let plan = plan_by (is_some c.default.result) in
    let input = input_members consumed g.I.Input.is_at_end g.I.Input.failures in
    let output = output_members g.O.Output.written g.O.Output.is_finished g.O.Output.endings g.O.Output.failures in
    let k : key_set limits c.in_ok-template.template.keys.items true ≡ Ok c.in_ok-set.set = rw (← c.deref.ensures.value) c.in_ok-set.ensures in
    let t : c.in_ok-template.template.text.items ≡ c.deref-else-has.result.now = sym c.deref-else-has.ensures.value in
    let wanted : false ≡ is_given "O" options = sym c.if-has.false ∙ c.has.ensures in
    rw c.requires.command (streamed None c.jws_sign-else-has.result (sig_is options false wanted) c.in_ok-template.ensures
    (rw (k, t, ← c.has-compact.ensures, ← wanted) refl) (plan_from-by_plan (plan_by false)) (λ none. refl)
    (λ none. signed_inside c.has-compact.result c.in_ok-set.set c.deref-else-has.result.now) refl
    (unlent_call c.default.result _ (λ detach l. StreamsDrawn input output (by_plan (plan_by detach))
    (λ octets. plan_by detach) c.read_inputs.new.inputs.random c.read_inputs.new.inputs.random c.read_inputs.new.inputs.content
    c.jws_sign-else-has.new.content c.args.outputs.now.text c.jws_sign-else-has.new.out l c.jws_sign-else-has.result) c.default.ensures
    (drawn_from_none plan _ _ _ _ _ _ _ e.streams e.faults)))
