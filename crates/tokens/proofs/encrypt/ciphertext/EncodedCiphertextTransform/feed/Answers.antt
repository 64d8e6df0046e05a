use Rattle.std.proofs.Common.{rules, ◌++◌, Err, ap, ◌∙◌, refl}
use Rattle.octets.specs.Encoding.{encoding}
use Rattle.octets.specs.Code.Streams.{RefusesFrom}
use Rattle.octets.proofs.Lemmas.{of_refusal}
use Rattle.ciphers.specs.Sealing.{IsTooLong}
use Rattle.tokens.specs.Code.SealedTexts.{sealed_plan}
use Rattle.tokens.proofs.Encrypting.Sealing.{refuses_long}
use Rattle.tokens.proofs.encrypt.ciphertext.EncodedCiphertextTransform.feed.Goals as goal

pub returns-in_err-len-clause-refused : goal.returns-in_err-len-clause-refused
returns-in_err-len-clause-refused g c s p fed =
    let all = p ++ c.args.piece.now in
    let long : IsTooLong s all = (c.in_err-len.ensures.limit s p fed.0.holds).0 refl in
    of_refusal (RefusesFrom (sealed_plan encoding s) all) c.from_residual.result _ (search rules ∙ ap Err c.in_err-len.ensures.refusal)
    (refuses_long encoding s all long)
