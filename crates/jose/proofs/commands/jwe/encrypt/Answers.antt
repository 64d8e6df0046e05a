use Rattle.std.proofs.Common.{◌≡◌, Bool, is_some, ◌∙◌, Ok, None, Some, false, refl, sym, true}
use Rattle.keys.specs.KeySets.{key_set}
use Rattle.keys.specs.Limits.{limits}
use Rattle.octets.specs.Devices.{appended, input_members, output_members}
use Rattle.octets.specs.Plan.{plan_from}
use Rattle.tokens.specs.Encrypting.{enc_plan}
use Rattle.jose.specs.Invocations.{settings_view}
use Rattle.jose.proofs.Doing.{not_read}
use Rattle.jose.proofs.Fixed.{encrypted_inside}
use Rattle.jose.proofs.Rows.{enc_is, is_given}
use Rattle.jose.proofs.Streamed.{StreamsDrawn, keys_refused, streamed, unlent_call}
use Rattle.jose.proofs.commands.jwe.encrypt.Goals as goal

pub returns-in_err-template : goal.returns-in_err-template
returns-in_err-template g c =
    let is = enc_is (settings_view c.args.invocation.now.options.items) _ refl in
    rw c.requires.command (not_read _ _ is.reader c.in_err-template.ensures c.from_residual.result c.from_residual.ensures.1)

pub returns-in_err-set : goal.returns-in_err-set
returns-in_err-set g c =
    let is = enc_is (settings_view c.args.invocation.now.options.items) _ refl in
    rw c.requires.command (keys_refused _ _ is c.in_ok-template.ensures
    (λ memory. let k = c.in_err-set.ensures memory in (rw (← c.deref.ensures.value, k.0) refl, k.1))
    c.from_residual-in_err-set.result c.from_residual-in_err-set.ensures.1)

pub returns-then-has : goal.returns-then-has
returns-then-has g c =
    let options = settings_view c.args.invocation.now.options.items in
    let consumed = g.I.Input.consumed in
    let e = c.jwe_encrypt.ensures in
    let plan = enc_plan limits c.has-compact.result true c.in_ok-set.set c.deref-then-has.result.now in
    let k : key_set limits c.in_ok-template.template.keys.items true ≡ Ok c.in_ok-set.set = rw (← c.deref.ensures.value) c.in_ok-set.ensures in
    let t : c.in_ok-template.template.text.items ≡ c.deref-then-has.result.now = sym c.deref-then-has.ensures.value in
    let wanted : true ≡ is_given "O" options = sym c.if-has.true ∙ c.has.ensures in
    rw c.requires.command (streamed (Some (record { old = c.args.outputs.now.content; new = c.jwe_encrypt.new.detached.0 })) c.jwe_encrypt.result
    (enc_is options true wanted) c.in_ok-template.ensures
    (rw (k, t, ← c.has-compact.ensures, ← wanted) refl) (λ octets. refl) (λ none. cc) (λ none. cc) refl
    (record { draws = e.draws; streams = e.streams; faults = e.faults }))

pub returns : goal.returns
returns g c =
    let options = settings_view c.args.invocation.now.options.items in
    let consumed = g.I.Input.consumed in
    let e = c.jwe_encrypt-else-has.ensures in
    let plan_by = λ (detach : Bool). enc_plan limits c.has-compact.result detach c.in_ok-set.set c.deref-else-has.result.now in
    let plan = plan_by (is_some c.default.result) in
    let input = input_members consumed g.I.Input.is_at_end g.I.Input.failures in
    let output = output_members g.O.Output.written g.O.Output.is_finished g.O.Output.endings g.O.Output.failures in
    let k : key_set limits c.in_ok-template.template.keys.items true ≡ Ok c.in_ok-set.set = rw (← c.deref.ensures.value) c.in_ok-set.ensures in
    let t : c.in_ok-template.template.text.items ≡ c.deref-else-has.result.now = sym c.deref-else-has.ensures.value in
    let wanted : false ≡ is_given "O" options = sym c.if-has.false ∙ c.has.ensures in
    rw c.requires.command (streamed None c.jwe_encrypt-else-has.result (enc_is options false wanted) c.in_ok-template.ensures
    (rw (k, t, ← c.has-compact.ensures, ← wanted) refl) (λ octets. refl) (λ none. cc)
    (λ none. encrypted_inside c.has-compact.result c.in_ok-set.set c.deref-else-has.result.now
    (appended (consumed c.read_inputs.new.inputs.random) (consumed c.jwe_encrypt-else-has.new.random))) refl
    (unlent_call c.default.result _ (λ detach l. StreamsDrawn input output (plan_by detach)
    (plan_from (plan_by detach)) c.read_inputs.new.inputs.random c.jwe_encrypt-else-has.new.random c.read_inputs.new.inputs.content
    c.jwe_encrypt-else-has.new.content c.args.outputs.now.text c.jwe_encrypt-else-has.new.out l c.jwe_encrypt-else-has.result)
    c.default.ensures (record { draws = e.draws; streams = e.streams; faults = e.faults })))
