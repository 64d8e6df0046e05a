use Rattle.std.proofs.Common.{◌≡◌, ◌++◌, [], false, map, length, sym, ap, subst, ◌∙◌, append-nil, arith}
use Rattle.octets.specs.Base64url.{base64url}
use Rattle.octets.specs.Devices.{appended}
use Rattle.octets.specs.Outcomes.{AgreesUnlessExternal}
use Rattle.keys.specs.Code.Views.{key_view}
use Rattle.objects.specs.HandedIn.{with_payload}
use Rattle.objects.specs.Code.Views.{jws_view, signature_view}
use Rattle.tokens.specs.Code.SigningInputs.{HoldEach}
use Rattle.tokens.specs.Verifying.{verifying_by_least}
use Rattle.tokens.specs.Code.Heads.{pointed_views}
use Rattle.tokens.specs.Code.VerifyingInputs.{starts_for_keys}
use Rattle.tokens.specs.contracts.signing_input.HmacInputSigningInput.TheImpl.{has_taken-value}
use Rattle.tokens.proofs.Signing.Payload.{written_back}
use Rattle.tokens.proofs.Verifying.Detached.{unwanted}
use Rattle.tokens.proofs.verify.detached.jws_verify_detached_least.Goals as goal

pub returns-clause-answer : goal.returns-clause-answer
returns-clause-answer g c payload may =
    let has_taken = has_taken-value.it in
    let consumed = g.I.Input.consumed in
    let p = appended (consumed c.args.content.now) (consumed c.take_content.new.content) in
    let is : payload ≡ p = may.continues ∙ ap (λ rest. p ++ rest) (may.ends c.in_ok-take_content.ensures.ends) ∙ append-nil p in
    let inputs = c.in_ok-inputs.inputs in
    let starts = starts_for_keys (pointed_views c.list-heads.result.now) (map key_view c.keys-keys.result.now) in
    let holds = subst (λ i. HoldEach has_taken i starts []) (sym c.deref_mut.ensures.value) c.in_ok-inputs.ensures.started in
    let taken = c.in_ok-take_content.ensures.taken starts holds in
    let back = written_back c.take_content.new.inputs inputs.items inputs.len (omega (arith, inputs.ok.0))
    (c.in_ok-take_content.ensures.len ∙ ap length c.deref_mut.ensures.value) in
    let all = subst (λ i. HoldEach has_taken i starts (base64url payload)) (sym back)
    (subst (λ q. HoldEach has_taken c.take_content.new.inputs starts (base64url q)) (sym is) taken) in
    let verdict = c.verdict.ensures.agrees c.args.least payload (c.are_signed-are_right.ensures payload all) in
    let their = ap (λ l. verifying_by_least c.args.least false l (with_payload payload (jws_view c.args.jws.now))) c.keys-keys.ensures.list in
    let of = ap (λ l. verifying_by_least c.args.least false (map key_view c.keys-keys.result.now) (record { payload = payload; signatures = l }))
    c.signatures-signatures.ensures.list in
    subst (λ a. AgreesUnlessExternal a [] c.verdict.result) (of ∙ their)
    (unwanted c.args.least (map key_view c.keys-keys.result.now)
    (record { payload = payload; signatures = map signature_view c.signatures-signatures.result.now }) payload c.verdict.result verdict)
