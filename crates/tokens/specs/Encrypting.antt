-- Encrypting to each key of a set (RFC 7516 section 5.1), in compact form (section 7.1) or in JSON form (section 7.2).
use Rattle.std.specs.Prelude.{◌≡◌, ◌≤◌, ◌<◌, ℕ, ◌+◌, ◌^◌, Bool, true, false, not, List, [], ◌∷◌, ◌++◌, length, map, take, drop, codes, if◌then◌else◌, Option, Some, None, Result, Ok, IfErr}
use Rattle.std.specs.List.{AllByRecursion}
use Rattle.std.specs.Option.{unwrap_or}
use Rattle.serde_json.specs.Data.{Members, no_members, string, put}
use Rattle.octets.specs.declared.refusal.Refusal.{Refusal}
use Rattle.octets.specs.declared.refusal.Refusal.TheVariants.{Limit}
use Rattle.octets.specs.Outcomes.{◌>>=◌, needs}
use Rattle.octets.specs.Base64url.{base64url, whole_groups}
use Rattle.octets.specs.Octets.{IsOctets}
use Rattle.octets.specs.Plan.{OutputTexts, Plan, BothGrow, Draft, planned, plan_from}
use Rattle.ciphers.specs.Openings.{is_longer}
use Rattle.ciphers.specs.Sealing.{Sealed, Sealing, IsTooLong, sealing, cek_len, iv_len}
use Rattle.ciphers.specs.Algorithms.{management_name, management_algs}
use Rattle.keys.specs.Algorithms.{management_operations}
use Rattle.keys.specs.Keys.{OctetKey, AreOctetKeys, allows}
use Rattle.keys.specs.Limits.{Limits, limits, are_few}
use Rattle.objects.specs.KeyManagement.{KeyManagement, Unknown, Direct, KeyWrap, Password, GcmKeyWrap}
use Rattle.objects.specs.Jwe.{RecipientParts, JweParts, EncryptedObject, built, jwe_of, jwe_text}
use Rattle.objects.specs.Texts.{handed_in, handed_out, listed_header_depth, before_content}
use Rattle.tokens.specs.Choosing.{RecipientKey, is_direct, is_alone, with_name, with_p2c, Given, EncryptionPlan, read_encryption}
use Rattle.tokens.specs.Decrypting.{additional_authenticated_data, all_pairs, sealed_content, opened_by, decrypted}
use Rattle.tokens.specs.Delivering.{drawn_for_all, Delivery, deliveries_to}
use Rattle.tokens.specs.Template.{header_text}

-- ---- what is drawn: octets for the recipients in order, the content encryption key, unless a key is it, and the initialization vector
-- of the content (RFC 7516 section 5.1, steps 2, 6 and 9, and docs/SPECIFICATION.md "Encrypting" 6)

-- the key that is used directly, if there is one, and then it is the only key
abbrev pub direct_key : List RecipientKey → Option (List ℕ)
direct_key [] = None
direct_key (r ∷ rest) = if is_direct r.management then Some r.key.octets else None

-- how many octets are drawn for the content encryption key
abbrev pub drawn_cek : Option (List ℕ) → ℕ → ℕ
drawn_cek None n = n
drawn_cek (Some key) n = 0

abbrev pub cek_drawn : EncryptionPlan → ℕ
cek_drawn e = drawn_cek (direct_key e.recipient_keys) (cek_len e.encryption)

abbrev pub random_len : EncryptionPlan → ℕ
random_len e = drawn_for_all e.recipient_keys + cek_drawn e + iv_len e.encryption

abbrev pub for_recipients : EncryptionPlan → List ℕ → List ℕ
for_recipients e random = take (drawn_for_all e.recipient_keys) random

abbrev pub after_recipients : EncryptionPlan → List ℕ → List ℕ
after_recipients e random = drop (drawn_for_all e.recipient_keys) random

abbrev pub cek_by : EncryptionPlan → List ℕ → List ℕ
cek_by e random = unwrap_or (direct_key e.recipient_keys) (take (cek_drawn e) (after_recipients e random))

abbrev pub iv_by : EncryptionPlan → List ℕ → List ℕ
iv_by e random = drop (cek_drawn e) (after_recipients e random)

abbrev pub deliveries_by : EncryptionPlan → List ℕ → List Delivery
deliveries_by e random = deliveries_to e (cek_by e random) e.recipient_keys (for_recipients e random)

-- ---- the headers (RFC 7516 section 5.1, steps 12 and 13, and docs/SPECIFICATION.md "Encrypting" 7)

-- the header with the parameters of key management, except the iterations if the template has them (RFC 7518 sections 4.7.1 and 4.8.1)
abbrev pub with_management : Bool → KeyManagement → Members → Members
with_management given Unknown header = header
with_management given Direct header = header
with_management given KeyWrap header = header
with_management given (Password p2s p2c) header = put (codes "p2s") (string (base64url p2s)) (with_p2c given p2c header)
with_management given (GcmKeyWrap iv tag) header = put (codes "tag") (string (base64url tag)) (put (codes "iv") (string (base64url iv)) header)

-- the header with the algorithm's name and the parameters of a delivery; a name or a `p2c` of the template stays
abbrev pub with_parameters : Given → Delivery → Members → Members
with_parameters given d header = with_management given.p2c d.management (with_name given.alg (codes "alg") (management_name d.alg) header)

-- the protected header, with those of the delivery if there is one recipient
abbrev pub protected_header : Given → Bool → List Delivery → Members → Members
protected_header given alone [] header = header
protected_header given alone (d ∷ rest) header = if alone then with_parameters given d header else header

-- the header of a recipient, with those of its delivery if there are several recipients
abbrev pub per_recipient_header : Given → Bool → Delivery → Members
per_recipient_header given alone d = if alone then no_members else with_parameters given d no_members

-- the protected header, with what was drawn
abbrev pub header_of : EncryptionPlan → List ℕ → Members
header_of e random = protected_header e.given (is_alone e.recipient_keys) (deliveries_by e random) e.protected

-- its text
abbrev pub header_by : EncryptionPlan → List ℕ → List ℕ
header_by e random = header_text (header_of e random)

-- a recipient, by whether it is the only one
abbrev pub recipient_parts_by : Given → Bool → Delivery → RecipientParts
recipient_parts_by given alone d = record { header = per_recipient_header given alone d; encrypted_key = d.encrypted_key }

abbrev pub recipients_by : EncryptionPlan → List ℕ → List RecipientParts
recipients_by e random = map (recipient_parts_by e.given (is_alone e.recipient_keys)) (deliveries_by e random)

-- ---- the object of a plaintext (RFC 7516 section 5.1, steps 14 and 15)

abbrev pub sealing_by : EncryptionPlan → List ℕ → Sealing
sealing_by e random = sealing e.encryption (cek_by e random) (iv_by e random)
    (additional_authenticated_data (base64url (header_by e random)) e.aad)

-- the sealed plaintext, if it is not too long (docs/SPECIFICATION.md "Encrypting" 7)
unfoldable pub sealed_by : Sealing → List ℕ → Result Sealed Refusal
sealed_by s plaintext = do
  short ← needs (not (is_longer (length plaintext) s.longest)) Limit
  Ok (s.sealed plaintext)

-- the members of the object
abbrev pub parts_by : EncryptionPlan → List ℕ → Sealed → JweParts
parts_by e random s = record {
  protected = base64url (header_by e random);
  unprotected = e.unprotected;
  iv = iv_by e random;
  aad = e.aad;
  ciphertext = s.ciphertext;
  tag = s.tag;
  recipients = recipients_by e random;
}

unfoldable pub encrypted : Limits → EncryptionPlan → List ℕ → List ℕ → Result EncryptedObject Refusal
encrypted limits e random plaintext = do
  s ← sealed_by (sealing_by e random) plaintext
  built limits (parts_by e random s)

-- ---- its text (RFC 7516 section 5.1, step 19, and docs/SPECIFICATION.md "Commands", what is left after a refusal)

-- the text before that of the ciphertext, whatever the ciphertext and the tag are
abbrev pub text_before : Limits → Bool → EncryptionPlan → List ℕ → List ℕ
text_before limits compact e random =
    before_content (λ octets. built limits (parts_by e random (record { ciphertext = octets; tag = octets })) >>= jwe_text compact false)

abbrev pub within_longest : Option ℕ → List ℕ → List ℕ
within_longest None front = front
within_longest (Some most) front = take most front

-- what is written of the object: its text, and the ciphertext if it is detached
abbrev pub written_of : Bool → Bool → EncryptedObject → Result OutputTexts Refusal
written_of compact detach o = do
  text ← jwe_text compact detach o
  Ok (record { text = text; content = handed_out detach o.ciphertext })

-- the ciphertext that a beginning of the plaintext fixes
abbrev pub ciphertext_fixed : EncryptionPlan → List ℕ → List ℕ → List ℕ
ciphertext_fixed e random front = (sealing_by e random).fixed (within_longest (sealing_by e random).longest front)

-- A beginning of the plaintext fixes the text before the ciphertext, and the base64url text of the whole groups of three octets of this
-- ciphertext. A text with a detached ciphertext is written only after the ciphertext.
abbrev pub text_fixed : Limits → Bool → Bool → EncryptionPlan → List ℕ → List ℕ → List ℕ
text_fixed _ compact true e random ciphertext = []
text_fixed limits compact false e random ciphertext = text_before limits compact e random ++ base64url (whole_groups ciphertext)

-- what is written for each plaintext
abbrev pub plan_by : Limits → Bool → Bool → EncryptionPlan → List ℕ → Plan OutputTexts
plan_by limits compact detach e random = record {
  whole = λ plaintext. encrypted limits e random plaintext >>= written_of compact detach;
  fixed = λ front. record {
    text = text_fixed limits compact detach e random (ciphertext_fixed e random front);
    content = handed_out detach (ciphertext_fixed e random front);
  };
}

-- what keys and a template's text settle, or the first refusal
unfoldable pub enc_plan : Limits → Bool → Bool → List OctetKey → List ℕ → Result (Draft OutputTexts) Refusal
enc_plan limits compact detach keys text = do
  e ← read_encryption limits compact keys text
  Ok (record { drawn = random_len e; plan = plan_by limits compact detach e })

-- ---- what it fixes, and what it makes (docs/SPECIFICATION.md "Encrypting" 7)

-- The texts that a beginning of the plaintext fixes grow as more is read, and are beginnings of the whole texts.
abbrev pub EncryptingGrows : Type 0
EncryptingGrows = (compact detach : Bool) (keys : List OctetKey) (template random : List ℕ) (plan : Plan OutputTexts) → AreOctetKeys keys → IsOctets random
    → plan_from (enc_plan limits compact detach keys template) random ≡ Ok plan → BothGrow plan

-- If at most 256 keys and a template are accepted, every plaintext that is not too long has an object and its texts: after the random
-- octets the only refusal is Limit, and only of a plaintext that is too long for the content encryption.
abbrev pub EncryptingMakesTexts : Type 0
EncryptingMakesTexts = (compact detach : Bool) (keys : List OctetKey) (template random plaintext : List ℕ) (plan : Plan OutputTexts)
    → are_few limits (length keys) ≡ true
    → AreOctetKeys keys → IsOctets random → plan_from (enc_plan limits compact detach keys template) random ≡ Ok plan
    → IfErr (plan.whole plaintext) (λ refusal. (refusal ≡ Limit)
    × ((e : EncryptionPlan) × (read_encryption limits compact keys template ≡ Ok e) × IsTooLong (sealing_by e (take (random_len e) random)) plaintext))

-- ---- what is encrypted is decrypted (docs/SPECIFICATION.md "Encrypting" and "Decrypting")

-- Limits under which what is written may be read: a header is not too deep for a list of recipients, a count of iterations is at least 1, a
-- JSON number, and at most the greatest that is read, and the algorithms are those that may be chosen.
pub record AreSound (limits : Limits) : Type 0 where
  pub depth : limits.depth ≤ listed_header_depth
  pub some : 1 ≤ limits.least_p2c
  pub whole : limits.greatest_p2c < 2 ^ 64
  pub read : limits.greatest_p2c ≤ limits.greatest_p2c_read
  pub algorithms : limits.management ≡ management_algs

-- The key may decrypt by the algorithm that it encrypts with: at each recipient that the template and the keys make with this key, its
-- `use` and `key_ops` allow the operation of a recipient. A key whose `key_ops` has only `wrapKey` encrypts, and may not decrypt.
abbrev pub MayDecrypt : Limits → Bool → List OctetKey → OctetKey → List ℕ → Type 0
MayDecrypt limits compact keys key template =
    (e : EncryptionPlan) → read_encryption limits compact keys template ≡ Ok e
    → AllByRecursion (λ r. r.key ≡ key → allows key (management_operations r.management).1 ≡ true) e.recipient_keys

-- At each of the first n recipients, those of the keys before it, the key opens nothing, or this plaintext. The first key has none before
-- it, so this asks nothing of it.
abbrev pub OpensNoOther : ℕ → OctetKey → EncryptedObject → List ℕ → Type 0
OpensNoOther n key o plaintext =
    AllByRecursion (λ pair. (other : List ℕ) → opened_by (sealed_content o) pair ≡ Some other → other ≡ plaintext)
    (all_pairs management_algs (key ∷ []) (take n o.recipients))

-- A text that is encrypted to keys is an object. Each of the keys alone decrypts it to the plaintext, if the key may decrypt and opens
-- nothing else at the recipient of an earlier key.
abbrev pub EncryptedDecrypts : Limits → Type 0
EncryptedDecrypts limits = (compact detach : Bool) (keys : List OctetKey) (template random plaintext : List ℕ) (texts : OutputTexts) → AreOctetKeys keys
    → IsOctets random → IsOctets plaintext
    → planned (plan_from (enc_plan limits compact detach keys template) random) plaintext ≡ Ok texts
    → (o : EncryptedObject) × ((jwe_of limits (handed_in detach texts.content) texts.text ≡ Ok o)
    × ((before after : List OctetKey) (key : OctetKey) → keys ≡ before ++ key ∷ after → MayDecrypt limits compact keys key template
    → OpensNoOther (length before) key o plaintext
    → decrypted limits (key ∷ []) o ≡ Ok plaintext))
