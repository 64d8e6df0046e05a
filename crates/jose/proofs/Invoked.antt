-- The promises about the answers of invocations follow from those about the answers of `tokens`.
use Rattle.std.proofs.Common.{sym, ap, ◌∙◌}
use Rattle.octets.specs.Plan.{planned}
use Rattle.octets.proofs.Lemmas.{plan_from-by_plan}
use Rattle.keys.specs.Limits.{limits}
use Rattle.objects.specs.Texts.{handed_in}
use Rattle.tokens.specs.Jwe.{dec_answer}
use Rattle.tokens.specs.Jws.{sig_answer, ver_answer}
use Rattle.jose.specs.Headline.{EncryptedIsDecrypted, AnswerIsDecrypted, SignedIsVerified, AnswerIsVerified}
use Rattle.jose.specs.Meanings.{is_content_given, is_content_wanted, is_compact_asked, is_all_asked}
use Rattle.jose.specs.Ports.{on_content}
use Rattle.jose.proofs.Objects.{planned_of_object}

pub answer_is_decrypted : EncryptedIsDecrypted limits limits → AnswerIsDecrypted
answer_is_decrypted texts encrypting decrypting given wrote random_octets content_octets h =
    let o = texts (is_compact_asked encrypting) (is_content_wanted encrypting) given.keys given.text given.random given.content wrote
    random_octets content_octets h in (
      o.0,
      (
        o.1.0,
        λ before after key back among alone may only read.
            planned_of_object (is_content_given decrypting) (λ detached. on_content (dec_answer limits back.keys detached back.text)) back.random back.content
            ∙ ap on_content (o.1.1 before after key back.keys (handed_in (is_content_given decrypting) back.content) back.text among alone may only read),
      ),
    )

pub answer_is_verified : SignedIsVerified → AnswerIsVerified
answer_is_verified texts signing verifying given wrote content_octets h =
    let plan = sig_answer limits (is_compact_asked signing) (is_content_wanted signing) given.keys given.text in
    let o = texts (is_compact_asked signing) (is_content_wanted signing) given.keys given.text given.content wrote content_octets
    (ap (λ plan. planned plan given.content) (sym (plan_from-by_plan plan given.random)) ∙ h) in (
      o.0,
      (
        o.1.0,
        λ signers back among held read.
            planned_of_object (is_content_given verifying) (λ detached. on_content
            (ver_answer limits (is_all_asked verifying) (is_content_wanted verifying) back.keys detached back.text)) back.random back.content
            ∙ ap on_content (o.1.1 signers (is_all_asked verifying) (is_content_wanted verifying) back.keys
            (handed_in (is_content_given verifying) back.content) back.text among held read),
      ),
    )
