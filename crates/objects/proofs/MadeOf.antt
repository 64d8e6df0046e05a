-- The members of which objects are made.
use Rattle.std.proofs.Common.{◌≡◌, ℕ, List, map, codes, Ok, refl, sym, ap, ◌∙◌, subst}
use Rattle.std.proofs.lemmas.List.{map-id}
use Rattle.std.specs.List.{list_all}
use Rattle.octets.specs.declared.refusal.Refusal.TheVariants.{Header, Unsupported}
use Rattle.octets.specs.Outcomes.{needs}
use Rattle.serde_json.specs.Data.{Members, no_members}
use Rattle.ciphers.specs.declared.key_alg.KeyAlg.{KeyAlg}
use Rattle.objects.specs.Headers.{protected_members, joint_header, string_there}
use Rattle.objects.specs.Jwe.{RecipientParts, Recipient, JweParts, EncryptedObject, recipient_parts_of, parts_of, recipient_by, recipient_of, recipients_of, recipients_of_one_enc, have_one_enc, have_no_crit_or_zip, encrypted_object}
use Rattle.objects.specs.Jws.{SignatureParts, Signature, DecodedSignature, HeadedSignature, SignedObject, signature_parts_of, headed_signature, signature_by, headers_have_no_crit, signatures_of, signed_object}
use Rattle.objects.specs.KeyManagement.{key_management}
use Rattle.objects.specs.Texts.{each}
use Rattle.objects.proofs.EachRead.{each_keeps}
use Rattle.octets.proofs.Lemmas.{steps, same_answer}

-- ---- encrypted objects

recipient_by_is : (algs : List KeyAlg) (header : Members) (p : RecipientParts) (r : Recipient) → recipient_by algs header p ≡ Ok r
    → recipient_parts_of r ≡ p
unfolding recipient_by
recipient_by_is algs header p r h =
    let a = steps (string_there (codes "alg") header) _ r h in
    let b = steps (string_there (codes "enc") header) _ r a.2 in
    let c = steps (key_management algs a.0 header) _ r b.2 in
    ap recipient_parts_of (sym (same_answer _ r c.2))

recipient_is : (algs : List KeyAlg) (protected unprotected : Members) (p : RecipientParts) (r : Recipient)
    → recipient_of algs protected unprotected p ≡ Ok r → recipient_parts_of r ≡ p
unfolding recipient_of
recipient_is algs protected unprotected p r h =
    let a = steps (joint_header protected unprotected p.header) (λ header. recipient_by algs header p) r h in
    recipient_by_is algs a.0 p r a.2

pub object_is : (algs : List KeyAlg) (octets : List ℕ) (parts : JweParts) (o : EncryptedObject)
    → encrypted_object algs octets parts ≡ Ok o → parts_of o ≡ parts
unfolding encrypted_object recipients_of_one_enc
object_is algs octets parts o h =
    let a = steps (protected_members octets) _ o h in
    let b = steps (recipients_of_one_enc algs a.0 parts.unprotected parts.recipients) _ o a.2 in
    let c = steps (needs (have_no_crit_or_zip a.0 parts.unprotected parts.recipients) Unsupported) _ o b.2 in
    let d = steps (recipients_of algs a.0 parts.unprotected parts.recipients) _ b.0 b.1 in
    let e = steps (needs (have_one_enc d.0) Header) _ b.0 d.2 in
    let same : d.0 ≡ b.0 = same_answer d.0 b.0 e.2 in
    let recipients : map recipient_parts_of b.0 ≡ parts.recipients =
    ap (map recipient_parts_of) (sym same) ∙ each_keeps (recipient_of algs a.0 parts.unprotected) (λ p. p) recipient_parts_of
    (recipient_is algs a.0 parts.unprotected) parts.recipients d.0 d.1 ∙ map-id parts.recipients in
    ap parts_of (sym (same_answer _ o c.2)) ∙ ap (λ (rs : List RecipientParts). record parts { recipients = rs }) recipients

-- ---- signed objects

headed_is : (d : DecodedSignature) (s : HeadedSignature) → headed_signature d ≡ Ok s → s.parts ≡ d.parts
unfolding headed_signature
headed_is d s h =
    let a = steps (protected_members d.octets) _ s h in
    ap (λ (s : HeadedSignature). s.parts) (sym (same_answer _ s a.2))

signature_is : (algs : List KeyAlg) (d : HeadedSignature) (s : Signature) → signature_by algs d ≡ Ok s → signature_parts_of s ≡ d.parts
unfolding signature_by
signature_is algs d s h =
    let a = steps (joint_header d.members no_members d.parts.header) _ s h in
    let b = steps (string_there (codes "alg") a.0) _ s a.2 in
    let c = steps (key_management algs b.0 a.0) _ s b.2 in
    ap signature_parts_of (sym (same_answer _ s c.2))

-- the object has the payload and these signatures
pub record IsSigned (octets : List ℕ) (decoded : List DecodedSignature) (o : SignedObject) : Type 0 where
  pub payload : o.payload ≡ octets
  pub signatures : map signature_parts_of o.signatures ≡ map (λ (d : DecodedSignature). d.parts) decoded

pub signed_is : (algs : List KeyAlg) (octets : List ℕ) (decoded : List DecodedSignature) (o : SignedObject) → signed_object algs octets decoded ≡ Ok o
    → IsSigned octets decoded o
unfolding signed_object signatures_of
signed_is algs octets decoded o h =
    let a = steps (signatures_of algs decoded) _ o h in
    let b = steps (each headed_signature decoded) _ a.0 a.1 in
    let c = steps (each (signature_by algs) b.0) _ a.0 b.2 in
    let d = steps (needs (list_all headers_have_no_crit b.0) Unsupported) _ a.0 c.2 in
    let decoded_parts_of : DecodedSignature → SignatureParts = λ d. d.parts in
    let headed_parts_of : HeadedSignature → SignatureParts = λ s. s.parts in
    let same : c.0 ≡ a.0 = same_answer c.0 a.0 d.2 in
    let signatures : map signature_parts_of a.0 ≡ map decoded_parts_of decoded =
    ap (map signature_parts_of) (sym same) ∙ each_keeps (signature_by algs) headed_parts_of signature_parts_of (signature_is algs) b.0 c.0 c.1
    ∙ each_keeps headed_signature decoded_parts_of headed_parts_of headed_is decoded b.0 b.1 in
    subst (IsSigned octets decoded) (same_answer _ o a.2) (record { payload = refl; signatures = signatures })
