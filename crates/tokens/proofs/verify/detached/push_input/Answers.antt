use Rattle.std.proofs.Common.{◌≡◌, ◌++◌, ◌∷◌, [], codes, Some, sym, ap, subst, ◌∙◌}
use Rattle.keys.specs.Code.Views.{key_view}
use Rattle.objects.specs.Code.Views.{signature_view}
use Rattle.keys.specs.Algorithms.{signature_hash}
use Rattle.tokens.specs.Code.SigningInputs.{InputStart, HoldEach}
use Rattle.tokens.specs.Verifying.{candidate_alg}
use Rattle.tokens.specs.Code.VerifyingInputs.{starts_by}
use Rattle.tokens.specs.contracts.signing_input.HmacInputSigningInput.TheImpl.{has_taken-value}
use Rattle.tokens.proofs.SigningInputs.Start.{hold_more}
use Rattle.tokens.proofs.verify.detached.push_input.Goals as goal

pub returns-in_ok-push-in-Some-clause-pushed : goal.returns-in_ok-push-in-Some-clause-pushed
returns-in_ok-push-in-Some-clause-pushed c starts h =
    let has_taken = has_taken-value.it in
    let s = signature_view c.args.head.now in
    let key = key_view c.args.key.now in
    let alg = c.in-Some.alg in
    let start : InputStart = record { alg = alg; key = key.octets; protected = s.protected } in
    let is : candidate_alg s key ≡ Some alg = sym c.candidate_alg.ensures ∙ c.in-Some.is in
    let text = c.as_bytes-protected.ensures.value ∙ c.protected.ensures in
    let here = subst (λ k. has_taken c.start.result (signature_hash alg) k (s.protected ++ codes ".")) c.octets.ensures
    (subst (λ p. has_taken c.start.result (signature_hash alg) c.octets.result.now (p ++ codes ".")) text c.start.ensures) in
    subst (λ more. HoldEach has_taken c.push.new.self.items (starts ++ more) []) (sym (ap (λ a. starts_by a s key) is))
    (subst (λ i. HoldEach has_taken i (starts ++ (start ∷ [])) []) (sym c.in_ok-push-in-Some.ensures.items)
    (hold_more has_taken c.args.inputs.now.items starts c.start.result start h here))
