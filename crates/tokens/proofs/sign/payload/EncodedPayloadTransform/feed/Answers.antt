use Rattle.std.proofs.Common.{rules, ◌++◌, length, ap, sym, subst, ◌∙◌, arith}
use Rattle.octets.specs.Base64url.{base64url, whole_groups}
use Rattle.octets.specs.Encoding.{encoding}
use Rattle.octets.specs.Code.Streams.{RefusesFrom}
use Rattle.octets.proofs.Lemmas.{of_refusal}
use Rattle.tokens.specs.Code.SigningInputs.{HoldEach}
use Rattle.tokens.proofs.Signing.Payload.{written_back}
use Rattle.tokens.proofs.sign.payload.EncodedPayloadTransform.feed.Goals as goal

pub returns-in_err-text-clause-refused : goal.returns-in_err-text-clause-refused
returns-in_err-text-clause-refused g c starts p fed =
    of_refusal (RefusesFrom encoding (p ++ c.args.piece.now)) c.from_residual.result _ (search rules) (c.in_err-text.ensures.refused tt p fed.1)

pub returns-clause-fed : goal.returns-clause-fed
returns-clause-fed g c starts p fed octets =
    let inputs = c.args.self.now.inputs in
    let holds = subst (λ i. HoldEach g.S.SigningInput.has_taken i starts (base64url (whole_groups p))) (sym c.deref_mut.ensures.value) fed.0 in
    let taken = c.take_each.ensures.taken starts (base64url (whole_groups p)) holds in
    let back = written_back c.take_each.new.inputs inputs.items inputs.len (omega (arith, inputs.ok.0))
    (c.take_each.ensures.len ∙ ap length c.deref_mut.ensures.value) in (
      subst (λ i. HoldEach g.S.SigningInput.has_taken i starts (base64url (whole_groups (p ++ c.args.piece.now)))) (sym back)
          (subst (HoldEach g.S.SigningInput.has_taken c.take_each.new.inputs starts) (sym (c.in_ok-text.ensures.text tt p fed.1 octets)) taken),
      c.in_ok-text.ensures.fed tt p fed.1 octets,
    )

pub returns-clause-text : goal.returns-clause-text
returns-clause-text g c starts p fed octets = c.in_ok-text.ensures.text tt p fed.1 octets
