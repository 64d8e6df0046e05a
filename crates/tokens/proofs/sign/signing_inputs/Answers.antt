use Rattle.std.proofs.Common.{map, ap, ◌∙◌}
use Rattle.objects.specs.Code.Views.{signature_view}
use Rattle.tokens.specs.Code.SigningInputs.{unsigned_protected}
use Rattle.tokens.specs.Code.Views.{signer_view}
use Rattle.tokens.specs.contracts.signing_input.HmacInputSigningInput.TheImpl.{has_taken-value}
use Rattle.tokens.proofs.SigningInputs.Start.{one_started}
use Rattle.tokens.proofs.sign.signing_inputs.Goals as goal

pub loop-signer-preserved : goal.loop-signer-preserved
loop-signer-preserved c =
    let steps = c.in-Some.ensures.steps in
    let signer = c.in-Some.signer.now in
    let signature = c.in-Some.signature.now in
    one_started has_taken-value.it c.loop-signer.inputs.items c.push.new.self.items _ _ _ _ _ c.start.result
    (signer_view signer) c.octets.result.now c.as_bytes-protected.result.now (signature_view signature).protected
    c.loop-signer.invariant (ap (map signer_view) steps.0) (ap (λ l. unsigned_protected (map signature_view l)) steps.1)
    c.octets.ensures (c.as_bytes-protected.ensures.value ∙ c.protected.ensures) c.start.ensures c.in_ok-push.ensures.items
