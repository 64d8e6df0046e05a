use Rattle.std.proofs.Common.{◌≡◌, map, take}
use Rattle.serde_json.specs.View.{members_view}
use Rattle.objects.specs.Code.Views.{made_signature_view}
use Rattle.tokens.specs.Code.SigningInputs.{unsigned_signature}
use Rattle.tokens.specs.Code.Views.{signer_view}
use Rattle.tokens.proofs.sign.unsigned_signatures.Given as goal

-- the signatures so far are those of the signers so far
abbrev pub invariant-loop-signer : goal.invariant-loop-signer
invariant-loop-signer l =
    map made_signature_view l.signatures.items ≡ map (unsigned_signature (members_view l.signing.header.entries))
    (map signer_view (take l.signer-index l.signing.signers.items))
