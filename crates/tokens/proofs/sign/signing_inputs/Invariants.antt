use Rattle.std.proofs.Common.{map}
use Rattle.objects.specs.Code.Views.{signature_view}
use Rattle.tokens.specs.Code.SigningInputs.{unsigned_protected}
use Rattle.tokens.specs.Code.Views.{signer_view}
use Rattle.tokens.specs.contracts.signing_input.HmacInputSigningInput.TheImpl.{has_taken-value}
use Rattle.tokens.proofs.SigningInputs.Start.{AreStartedBy}
use Rattle.tokens.proofs.sign.signing_inputs.Given as goal

-- the inputs so far are those of the first signers, and the signatures that are left have the texts of the others
abbrev pub invariant-loop-signer : goal.invariant-loop-signer
invariant-loop-signer l =
    AreStartedBy has_taken-value.it l.inputs.items (map signer_view l.signers) (map signer_view l.signer-iterator.a.rest.now)
    (unsigned_protected (map signature_view l.signer-iterator.b.rest.now))
