use Rattle.std.proofs.Common.{rules, ◌≡◌, ◌++◌, length, Err, ap, sym, subst, ◌∙◌, arith}
use Rattle.octets.specs.Base64url.{base64url, whole_groups}
use Rattle.octets.specs.Encoding.{encoding}
use Rattle.octets.proofs.Lemmas.{of_refusal}
use Rattle.tokens.specs.Code.SigningInputs.{HoldEach}
use Rattle.tokens.proofs.Signing.Payload.{written_back}
use Rattle.tokens.proofs.sign.payload.EncodedPayloadTransform.finish.Goals as goal

pub returns-in_err-text-clause-refused : goal.returns-in_err-text-clause-refused
returns-in_err-text-clause-refused g c starts p fed octets =
    of_refusal (λ e. encoding.whole p ≡ Err e) c.from_residual.result _ (search rules) (c.in_err-text.ensures.refused tt p fed.1 octets)

pub returns-clause-left : goal.returns-clause-left
returns-clause-left g c starts p fed octets =
    let inputs = c.args.self.inputs in
    let holds = subst (λ i. HoldEach g.S.SigningInput.has_taken i starts (base64url (whole_groups p))) (sym c.deref_mut.ensures.value) fed.0 in
    let taken = c.take_each.ensures.taken starts (base64url (whole_groups p)) holds in
    let back = written_back c.take_each.new.inputs inputs.items inputs.len (omega (arith, inputs.ok.0))
    (c.take_each.ensures.len ∙ ap length c.deref_mut.ensures.value) in
    let whole = c.in_ok-text.ensures.text tt p fed.1 octets in
    let all : base64url p ≡ base64url (whole_groups p) ++ c.in_ok-text.text.now = cc whole in
    subst (λ i. HoldEach g.S.SigningInput.has_taken i starts (base64url p)) (sym back)
    (subst (HoldEach g.S.SigningInput.has_taken c.take_each.new.inputs starts) (sym all) taken)

pub returns-clause-text : goal.returns-clause-text
returns-clause-text g c starts p fed octets = c.in_ok-text.ensures.text tt p fed.1 octets
