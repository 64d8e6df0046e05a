use Rattle.std.proofs.Common.{rules, ◌++◌, Err, ap, ◌∙◌, refl}
use Rattle.octets.specs.Code.Streams.{as_it_is, RefusesFrom}
use Rattle.octets.proofs.Lemmas.{of_refusal}
use Rattle.ciphers.specs.Sealing.{IsTooLong}
use Rattle.tokens.specs.Code.SealedTexts.{sealed_plan}
use Rattle.tokens.proofs.Encrypting.Sealing.{adds, refuses_long}
use Rattle.tokens.proofs.encrypt.ciphertext.CiphertextTransform.feed.Goals as goal

pub returns-in_err-len-clause-refused : goal.returns-in_err-len-clause-refused
returns-in_err-len-clause-refused g c s p fed =
    let all = p ++ c.args.piece.now in
    let long : IsTooLong s all = (c.in_err-len.ensures.limit s p fed.holds).0 refl in
    of_refusal (RefusesFrom (sealed_plan as_it_is s) all) c.from_residual.result _ (search rules ∙ ap Err c.in_err-len.ensures.refusal)
    (refuses_long as_it_is s all long)

pub returns-clause-fed : goal.returns-clause-fed
returns-clause-fed g c s p fed octets =
    let feed = c.in_ok-len.ensures in
    record { holds = feed.fed s p fed.holds; short = λ long. cc ((feed.limit s p fed.holds).1 long) }

pub returns-clause-text : goal.returns-clause-text
returns-clause-text g c s p fed octets =
    let feed = c.in_ok-len.ensures in
    adds as_it_is s p c.args.piece.now _ _ fed.short (λ long. cc ((feed.limit s p fed.holds).1 long)) (feed.text s p fed.holds) refl
