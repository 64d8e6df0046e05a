-- Objects that need none of the further key management algorithms are read and decrypted the same without them.
use Rattle.std.proofs.Common.{◌≡◌, ℕ, Bool, true, false, not, ◌||◌, is_some, List, [], ◌∷◌, ◌++◌, length, codes, if◌then◌else◌, Option, Some, None, Result, Ok, refl, sym, ap, subst, ◌∙◌}
use Rattle.std.specs.List.{list_all, list_any, AllByRecursion}
use Rattle.std.specs.Option.{option_or}
use Rattle.std.specs.Str.{bytes_eq}
use Rattle.serde_json.specs.Data.{Members, no_members}
use Rattle.octets.specs.declared.refusal.Refusal.{Refusal}
use Rattle.octets.specs.declared.refusal.Refusal.TheVariants.{Header, Unsupported, Limit}
use Rattle.octets.specs.Base64url.{decoded}
use Rattle.octets.specs.Outcomes.{needs}
use Rattle.ciphers.specs.declared.key_alg.KeyAlg.{KeyAlg}
use Rattle.ciphers.specs.Algorithms.{management_name, management_alg_among}
use Rattle.keys.specs.Keys.{OctetKey}
use Rattle.keys.specs.Limits.{Limits, are_few}
use Rattle.objects.specs.Headers.{protected_members, joint_header, string_there}
use Rattle.objects.specs.Jwe.{JweParts, RecipientParts, Recipient, EncryptedObject, recipient_by, recipient_of, recipients_of, have_one_enc, recipients_of_one_enc, have_no_crit_or_zip, encrypted_object, decoded_members, decoded_object, encoded_jwe, jwe_of}
use Rattle.objects.specs.Jws as jws
use Rattle.objects.specs.Jws.{JwsParts, DecodedSignature, HeadedSignature, Signature, SignedObject, decoded_signature, headed_signature, signature_by, signatures_of, signed_object, encoded_jws, jws_of}
use Rattle.objects.specs.KeyManagement.{KeyManagement, management_by, key_management}
use Rattle.objects.specs.Texts.{each}
use Rattle.objects.proofs.Lemmas.{all_passed}
use Rattle.octets.proofs.Lemmas.{steps, passed, same_answer}
use Rattle.tokens.specs.Decrypting.{algorithms_of, all_pairs, pairs_to_try, decrypted}
use Rattle.tokens.specs.MoreAlgorithms.{knowing, needs_no_more, OpensAlike}

-- ---- names

-- A name is looked up among the first algorithms, and then among the others.
found_among : (known further : List KeyAlg) (name : List ℕ)
    → management_alg_among (known ++ further) name ≡ option_or (management_alg_among known name) (management_alg_among further name)
unfolding management_alg_among
found_among [] further name = refl
found_among (alg ∷ known) further name = by_test (bytes_eq name (management_name alg)) _ _ _ (found_among known further name)
  where
    by_test : (named : Bool) (all first others : Option KeyAlg) → all ≡ option_or first others
        → (if named then Some alg else all) ≡ option_or (if named then Some alg else first) others
    by_test true all first others rest = refl
    by_test false all first others rest = rest

-- A name that needs none of the further algorithms is looked up the same with them.
named_alike : (known further : List KeyAlg) (name : List ℕ) → needs_no_more known further name ≡ true
    → management_alg_among (known ++ further) name ≡ management_alg_among known name
named_alike known further name enough = found_among known further name ∙ by_found (management_alg_among known name) (management_alg_among further name) enough
  where
    by_found : (first other : Option KeyAlg) → (is_some first || not (is_some other)) ≡ true → option_or first other ≡ first
    by_found (Some alg) other enough = refl
    by_found None None enough = refl
    by_found None (Some alg) enough = cc enough

-- ---- lists

-- If each element that is read with a property is read the same by another reading, so is the list.
each_alike : {X Y : Type 0} (P : Y → Type 0) (read other : X → Result Y Refusal) → ((x : X) (y : Y) → P y → read x ≡ Ok y → other x ≡ Ok y)
    → (xs : List X) (ys : List Y) → AllByRecursion P ys → each read xs ≡ Ok ys → each other xs ≡ Ok ys
each_alike P read other alike [] ys all h = h
each_alike P read other alike (x ∷ xs) ys all h =
    let first = steps (read x) _ ys h in
    let rest = steps (each read xs) _ ys first.2 in
    let same : first.0 ∷ rest.0 ≡ ys = same_answer (first.0 ∷ rest.0) ys rest.2 in
    let both = subst (AllByRecursion P) (sym same) all in
    rw (alike x first.0 both.0 first.1, each_alike P read other alike xs rest.0 both.1 rest.1) (ap Ok same)

-- ---- the steps of reading

-- the recipient that is read
abbrev recipient_with : RecipientParts → List ℕ → List ℕ → KeyManagement → Recipient
recipient_with parts alg enc q = record { header = parts.header; encrypted_key = parts.encrypted_key; alg = alg; enc = enc; management = q }

recipient_made : (algs : List KeyAlg) (p u header : Members) (parts : RecipientParts) (alg enc : List ℕ) (q : KeyManagement)
    → joint_header p u parts.header ≡ Ok header
    → string_there (codes "alg") header ≡ Ok alg → string_there (codes "enc") header ≡ Ok enc → key_management algs alg header ≡ Ok q
    → recipient_of algs p u parts ≡ Ok (recipient_with parts alg enc q)
unfolding recipient_of recipient_by
recipient_made algs p u header parts alg enc q a b c d = rw (a, b, c, d) refl

-- the encrypted object that is read
abbrev object_with : JweParts → Members → List Recipient → EncryptedObject
object_with parts protected recipients = record {
  protected = parts.protected;
  protected_members = protected;
  unprotected = parts.unprotected;
  iv = parts.iv;
  aad = parts.aad;
  ciphertext = parts.ciphertext;
  tag = parts.tag;
  recipients = recipients;
}

object_made : (algs : List KeyAlg) (octets : List ℕ) (parts : JweParts) (protected : Members) (recipients : List Recipient)
    → protected_members octets ≡ Ok protected
    → recipients_of algs protected parts.unprotected parts.recipients ≡ Ok recipients → have_one_enc recipients ≡ true
    → have_no_crit_or_zip protected parts.unprotected parts.recipients ≡ true
    → encrypted_object algs octets parts ≡ Ok (object_with parts protected recipients)
unfolding encrypted_object recipients_of_one_enc
object_made algs octets parts protected recipients a b c d = rw (a, b, c, d) refl

-- The text of an encrypted object is decoded and then read as the object.
text_read : (limits : Limits) (algs : List KeyAlg) (detached : Option (List ℕ)) (text octets : List ℕ) (texts : JweParts) (parts : JweParts)
    → encoded_jwe detached text ≡ Ok texts
    → are_few limits (length texts.recipients) ≡ true → decoded texts.protected ≡ Ok octets → decoded_members texts ≡ Ok parts
    → jwe_of (knowing limits algs) detached text ≡ encrypted_object algs octets parts
unfolding jwe_of decoded_object
text_read limits algs detached text octets texts parts a b c d = rw (a, b, c, d) refl

-- the signature that is read
abbrev signature_with : HeadedSignature → List ℕ → Signature
signature_with s alg = record {
  protected = s.parts.protected;
  protected_members = s.members;
  header = s.parts.header;
  signature = s.parts.signature;
  alg = alg;
}

signature_made : (algs : List KeyAlg) (s : HeadedSignature) (header : Members) (alg : List ℕ) (q : KeyManagement)
    → joint_header s.members no_members s.parts.header ≡ Ok header
    → string_there (codes "alg") header ≡ Ok alg → key_management algs alg header ≡ Ok q → signature_by algs s ≡ Ok (signature_with s alg)
unfolding signature_by
signature_made algs s header alg q a b c = rw (a, b, c) refl

-- The steps of reading lead to the signed object.
signed_made : (algs : List KeyAlg) (payload : List ℕ) (decoded : List DecodedSignature) (headed : List HeadedSignature) (signatures : List Signature)
    → each headed_signature decoded ≡ Ok headed → each (signature_by algs) headed ≡ Ok signatures → list_all jws.headers_have_no_crit headed ≡ true
    → signed_object algs payload decoded ≡ Ok (record { payload = payload; signatures = signatures })
unfolding signed_object signatures_of
signed_made algs payload decoded headed signatures a b c = rw (a, b, c) refl

-- The text of a signed object is decoded and then read as the object.
signed_text_read : (limits : Limits) (algs : List KeyAlg) (detached : Option (List ℕ)) (text payload : List ℕ) (texts : JwsParts)
    (signatures : List DecodedSignature)
    → encoded_jws detached text ≡ Ok texts → are_few limits (length texts.signatures) ≡ true → decoded texts.payload ≡ Ok payload
    → each decoded_signature texts.signatures ≡ Ok signatures → jws_of (knowing limits algs) detached text ≡ signed_object algs payload signatures
unfolding jws_of jws.decoded_object
signed_text_read limits algs detached text payload texts signatures a b c d = rw (a, b, c, d) refl

-- ---- if two lists of algorithms look up enough names the same
module _ (limits : Limits) (algs others : List KeyAlg) (enough : List ℕ → Bool)
    (alike : (name : List ℕ) → enough name ≡ true → management_alg_among algs name ≡ management_alg_among others name) where
  -- The key management is read the same.
  management_alike : (header : Members) (alg : List ℕ) (q : KeyManagement) → enough alg ≡ true → key_management algs alg header ≡ Ok q
      → key_management others alg header ≡ Ok q
  management_alike header alg q is h =
      ap (λ found. management_by found header) (sym (alike alg is)) ∙ h

  -- A recipient is read the same.
  recipient_alike : (p u : Members) (parts : RecipientParts) (r : Recipient) → enough r.alg ≡ true → recipient_of algs p u parts ≡ Ok r
      → recipient_of others p u parts ≡ Ok r
  unfolding recipient_of recipient_by
  recipient_alike p u parts r is h =
      let header = steps (joint_header p u parts.header) _ r h in
      let alg = steps (string_there (codes "alg") header.0) _ r header.2 in
      let enc = steps (string_there (codes "enc") header.0) _ r alg.2 in
      let management = steps (key_management algs alg.0 header.0) _ r enc.2 in
      let named : alg.0 ≡ r.alg = ap (λ (r : Recipient). r.alg) (same_answer _ r management.2) in
      let read = management_alike header.0 alg.0 management.0 (ap enough named ∙ is) management.1 in
      recipient_made others p u header.0 parts alg.0 enc.0 management.0 header.1 alg.1 enc.1 read ∙ management.2

  -- An encrypted object is read the same.
  object_alike : (octets : List ℕ) (parts : JweParts) (o : EncryptedObject) → list_all (λ r. enough r.alg) o.recipients ≡ true
      → encrypted_object algs octets parts ≡ Ok o
      → encrypted_object others octets parts ≡ Ok o
  unfolding encrypted_object recipients_of_one_enc
  object_alike octets parts o all h =
      let protected = steps (protected_members octets) _ o h in
      let read = steps (recipients_of_one_enc algs protected.0 parts.unprotected parts.recipients) _ o protected.2 in
      let plain = steps (needs (have_no_crit_or_zip protected.0 parts.unprotected parts.recipients) Unsupported) _ o read.2 in
      let recipients = steps (recipients_of algs protected.0 parts.unprotected parts.recipients) _ read.0 read.1 in
      let one = steps (needs (have_one_enc recipients.0) Header) _ read.0 recipients.2 in
      let same : recipients.0 ≡ read.0 = same_answer recipients.0 read.0 one.2 in
      let theirs : recipients.0 ≡ o.recipients = same ∙ ap (λ (o : EncryptedObject). o.recipients) (same_answer _ o plain.2) in
      let each_enough : AllByRecursion (λ r. enough r.alg ≡ true) recipients.0 =
      subst (AllByRecursion (λ r. enough r.alg ≡ true)) (sym theirs) (all_passed (λ r. enough r.alg) o.recipients all) in
      let read_alike : recipients_of others protected.0 parts.unprotected parts.recipients ≡ Ok recipients.0 =
      each_alike (λ r. enough r.alg ≡ true) (recipient_of algs protected.0 parts.unprotected) (recipient_of others protected.0 parts.unprotected)
      (recipient_alike protected.0 parts.unprotected) parts.recipients recipients.0 each_enough recipients.1 in
      object_made others octets parts protected.0 recipients.0 protected.1 read_alike (passed _ Header one.0 one.1) (passed _ Unsupported plain.0 plain.1)
      ∙ ap (λ rs. let r : Result EncryptedObject Refusal = Ok (object_with parts protected.0 rs) in r) same ∙ plain.2

  -- The text of an encrypted object is read the same.
  read_alike : (detached : Option (List ℕ)) (text : List ℕ) (o : EncryptedObject) → list_all (λ r. enough r.alg) o.recipients ≡ true
      → jwe_of (knowing limits algs) detached text ≡ Ok o
      → jwe_of (knowing limits others) detached text ≡ Ok o
  unfolding jwe_of decoded_object
  read_alike detached text o all h =
      let texts = steps (encoded_jwe detached text) _ o h in
      let few = steps (needs (are_few limits (length texts.0.recipients)) Limit) _ o texts.2 in
      let octets = steps (decoded texts.0.protected) _ o few.2 in
      let parts = steps (decoded_members texts.0) _ o octets.2 in
      text_read limits others detached text octets.0 texts.0 parts.0 texts.1 (passed _ Limit few.0 few.1) octets.1 parts.1
      ∙ object_alike octets.0 parts.0 o all parts.2

  -- A signature is read the same.
  signature_alike : (h : HeadedSignature) (s : Signature) → enough s.alg ≡ true → signature_by algs h ≡ Ok s → signature_by others h ≡ Ok s
  unfolding signature_by
  signature_alike d s is h =
      let header = steps (joint_header d.members no_members d.parts.header) _ s h in
      let alg = steps (string_there (codes "alg") header.0) _ s header.2 in
      let management = steps (key_management algs alg.0 header.0) _ s alg.2 in
      let named : alg.0 ≡ s.alg = ap (λ (s : Signature). s.alg) (same_answer _ s management.2) in
      let read = management_alike header.0 alg.0 management.0 (ap enough named ∙ is) management.1 in
      signature_made others d header.0 alg.0 management.0 header.1 alg.1 read ∙ management.2

  -- A signed object is read the same.
  signed_object_alike : (payload : List ℕ) (decoded : List DecodedSignature) (o : SignedObject) → list_all (λ s. enough s.alg) o.signatures ≡ true
      → signed_object algs payload decoded ≡ Ok o
      → signed_object others payload decoded ≡ Ok o
  unfolding signed_object signatures_of
  signed_object_alike payload decoded o all h =
      let read = steps (signatures_of algs decoded) _ o h in
      let headed = steps (each headed_signature decoded) _ read.0 read.1 in
      let signatures = steps (each (signature_by algs) headed.0) _ read.0 headed.2 in
      let plain = steps (needs (list_all jws.headers_have_no_crit headed.0) Unsupported) _ read.0 signatures.2 in
      let same : signatures.0 ≡ read.0 = same_answer signatures.0 read.0 plain.2 in
      let theirs : signatures.0 ≡ o.signatures = same ∙ ap (λ (o : SignedObject). o.signatures) (same_answer _ o read.2) in
      let each_enough : AllByRecursion (λ s. enough s.alg ≡ true) signatures.0 =
      subst (AllByRecursion (λ s. enough s.alg ≡ true)) (sym theirs) (all_passed (λ s. enough s.alg) o.signatures all) in
      let read_alike : each (signature_by others) headed.0 ≡ Ok signatures.0 =
      each_alike (λ s. enough s.alg ≡ true) (signature_by algs) (signature_by others) signature_alike headed.0 signatures.0 each_enough signatures.1 in
      signed_made others payload decoded headed.0 signatures.0 headed.1 read_alike (passed _ Unsupported plain.0 plain.1)
      ∙ ap (λ ss. let r : Result SignedObject Refusal = Ok (record { payload = payload; signatures = ss }) in r) same ∙ read.2

  -- The text of a signed object is read the same.
  signed_read_alike : (detached : Option (List ℕ)) (text : List ℕ) (o : SignedObject) → list_all (λ s. enough s.alg) o.signatures ≡ true
      → jws_of (knowing limits algs) detached text ≡ Ok o
      → jws_of (knowing limits others) detached text ≡ Ok o
  unfolding jws_of jws.decoded_object
  signed_read_alike detached text o all h =
      let texts = steps (encoded_jws detached text) _ o h in
      let few = steps (needs (are_few limits (length texts.0.signatures)) Limit) _ o texts.2 in
      let payload = steps (decoded texts.0.payload) _ o few.2 in
      let signatures = steps (each decoded_signature texts.0.signatures) _ o payload.2 in
      signed_text_read limits others detached text payload.0 texts.0 signatures.0 texts.1 (passed _ Limit few.0 few.1) payload.1 signatures.1
      ∙ signed_object_alike payload.0 signatures.0 o all signatures.2

  -- The pairs that are tried are the same.
  pairs_alike : (keys : List OctetKey) (recipients : List Recipient) → AllByRecursion (λ r. enough r.alg ≡ true) recipients
      → all_pairs algs keys recipients ≡ all_pairs others keys recipients
  unfolding algorithms_of
  pairs_alike keys [] all = refl
  pairs_alike keys (r ∷ rest) all = rw (alike r.alg all.0, pairs_alike keys rest all.1) refl

  -- With both lists of algorithms, some recipient is supported, or with neither.
  supported_alike : (recipients : List Recipient) → AllByRecursion (λ r. enough r.alg ≡ true) recipients
      → list_any (λ r. is_some (algorithms_of algs r)) recipients ≡ list_any (λ r. is_some (algorithms_of others r)) recipients
  unfolding algorithms_of
  supported_alike [] all = refl
  supported_alike (r ∷ rest) all = rw (alike r.alg all.0, supported_alike rest all.1) refl

  decrypted_alike : (keys : List OctetKey) (o : EncryptedObject) → list_all (λ r. enough r.alg) o.recipients ≡ true
      → decrypted (knowing limits algs) keys o ≡ decrypted (knowing limits others) keys o
  unfolding decrypted pairs_to_try
  decrypted_alike keys o all =
      let each_enough = all_passed (λ r. enough r.alg) o.recipients all in
      rw (supported_alike o.recipients each_enough, pairs_alike keys o.recipients each_enough) refl

-- ---- with and without the further algorithms

pub opens_alike : (limits : Limits) (known further : List KeyAlg) → OpensAlike limits known further
opens_alike limits known further =
    let more : List KeyAlg = known ++ further in
    let enough : List ℕ → Bool = needs_no_more known further in
    let back : (name : List ℕ) → enough name ≡ true → management_alg_among known name ≡ management_alg_among more name =
    λ name is. sym (named_alike known further name is) in
    record {
      read = λ detached text o all. (
        read_alike limits more known enough (named_alike known further) detached text o all,
        read_alike limits known more enough back detached text o all,
      );
      opens = decrypted_alike limits more known enough (named_alike known further);
      signed = λ detached text o all. (
        signed_read_alike limits more known enough (named_alike known further) detached text o all,
        signed_read_alike limits known more enough back detached text o all,
      );
    }
