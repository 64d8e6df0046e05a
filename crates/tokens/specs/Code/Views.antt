-- What values of the code hold.
use Rattle.std.specs.Prelude.{ℕ, List, map}
use Rattle.serde_json.specs.View.{members_view}
use Rattle.keys.specs.Code.Views.{key_view}
use Rattle.objects.specs.Code.KeyManagementView.{management_view}
use Rattle.objects.specs.Code.Views.{part_view, recipient_view}
use Rattle.tokens.specs.declared.sign.template.Template.{Template}
use Rattle.tokens.specs.declared.sign.signer.Signer.{Signer as CodeSigner}
use Rattle.tokens.specs.declared.sign.settle.Signing.{Signing as CodeSigning}
use Rattle.tokens.specs.declared.algorithms.Algorithms.{Algorithms as CodeAlgorithms}
use Rattle.tokens.specs.declared.decrypt.pair.Pair.{Pair as CodePair}
use Rattle.tokens.specs.declared.decrypt.SealedWith.{SealedWith}
use Rattle.tokens.specs.declared.decrypt.Work.{Work}
use Rattle.tokens.specs.declared.encrypt.recipient_key.RecipientKey.{RecipientKey as CodeRecipientKey}
use Rattle.tokens.specs.declared.encrypt.plan.Given.{Given as CodeGiven}
use Rattle.tokens.specs.declared.encrypt.plan.EncryptionPlan.{EncryptionPlan as CodeEncryptionPlan}
use Rattle.tokens.specs.declared.encrypt.deliver.Delivery.{Delivery as CodeDelivery}
use Rattle.tokens.specs.declared.encrypt.template.AlgorithmsAsked.{AlgorithmsAsked as CodeAsked}
use Rattle.tokens.specs.declared.encrypt.template.EncryptionTemplate.{EncryptionTemplate as CodeTemplate}
use Rattle.tokens.specs.declared.encrypt.template.TemplateTexts.{TemplateTexts as CodeTexts}
use Rattle.tokens.specs.Algorithms.{Algorithms}
use Rattle.tokens.specs.EncryptionTemplate.{TemplateTexts, AlgorithmsAsked, EncryptionTemplate}
use Rattle.tokens.specs.Choosing.{RecipientKey, Given, EncryptionPlan}
use Rattle.tokens.specs.Decrypting.{Pair, SealedContent}
use Rattle.tokens.specs.Code.Work.{WorkCounts}
use Rattle.tokens.specs.Delivering.{Delivery}
use Rattle.tokens.specs.Template.{SignatureTemplate}
use Rattle.tokens.specs.Signing.{Signer, Signing}

abbrev pub template_view : Template → SignatureTemplate
template_view t = record { protected = part_view t.protected; per_signature = part_view t.per_signature; alg = t.alg }

abbrev pub signer_view : CodeSigner → Signer
signer_view s = record { key = key_view s.key.now; alg = s.alg; protected = members_view s.protected.entries }

abbrev pub signing_view : CodeSigning → Signing
signing_view s = record { signers = map signer_view s.signers.items; header = members_view s.header.entries }

abbrev pub algorithms_view : CodeAlgorithms → Algorithms
algorithms_view a = record { management = a.management; encryption = a.encryption }

abbrev pub pair_view : CodePair → Pair
pair_view p = record { recipient = recipient_view p.recipient.now; algorithms = algorithms_view p.algorithms; key = key_view p.key.now }

-- with the ciphertext, which is elsewhere
abbrev pub sealed_with_view : SealedWith → List ℕ → SealedContent
sealed_with_view s ciphertext = record { iv = s.iv.now; aad = s.aad.now; ciphertext = ciphertext; tag = s.tag.now }

abbrev pub work_view : Work → WorkCounts
work_view w = record { iterations = w.iterations; unwraps = w.unwraps; openings = w.openings }

abbrev pub template_texts_view : CodeTexts → TemplateTexts
template_texts_view t = record { protected = part_view t.protected; unprotected = part_view t.unprotected; aad = t.aad.now }

abbrev pub asked_view : CodeAsked → AlgorithmsAsked
asked_view a = record { management = a.management; encryption = a.encryption; p2c = a.p2c }

abbrev pub encryption_template_view : CodeTemplate → EncryptionTemplate
encryption_template_view t = record { protected = part_view t.protected; unprotected = part_view t.unprotected; aad = t.aad.items; asked = asked_view t.asked }

abbrev pub recipient_key_view : CodeRecipientKey → RecipientKey
recipient_key_view r = record { key = key_view r.key.now; management = r.management }

abbrev pub given_view : CodeGiven → Given
given_view g = record { alg = g.alg; p2c = g.p2c }

abbrev pub encryption_plan_view : CodeEncryptionPlan → EncryptionPlan
encryption_plan_view e = record {
  encryption = e.encryption;
  recipient_keys = map recipient_key_view e.recipient_keys.items;
  given = given_view e.given;
  p2c = e.p2c;
  protected = members_view e.protected.entries;
  unprotected = members_view e.unprotected.entries;
  aad = e.aad.items;
}

abbrev pub delivery_view : CodeDelivery → Delivery
delivery_view d = record { alg = d.alg; management = management_view d.management; encrypted_key = d.encrypted_key.items }
