-- Encryption: the object that keys and a template settle for a plaintext, with the random octets that are drawn.
use Rattle.std.proofs.Common.{◌≡◌, ℕ, Bool, true, not, nat_le, List, [], ◌∷◌, length, take, map, Ok, refl, sym, ◌∙◌, ap, arith, length-drop}
use Rattle.std.proofs.lemmas.Bool.{and_from, leb-true, le-leb}
use Rattle.std.proofs.lemmas.Bool.Decides.{Decides-not}
use Rattle.std.proofs.lemmas.List.{length-take-le, length-map}
use Rattle.std.proofs.lemmas.Slice.Eq.{bytes_eq-Decides}
use Rattle.std.specs.List.{AllByRecursion, list_all}
use Rattle.std.specs.Str.{bytes_eq}
use Rattle.serde_json.specs.Data.{Members, object, depth}
use Rattle.octets.specs.declared.refusal.Refusal.TheVariants.{Limit, Random}
use Rattle.octets.specs.Base64url.{base64url}
use Rattle.octets.specs.Octets.{IsOctets}
use Rattle.octets.specs.Outcomes.{needs}
use Rattle.octets.specs.Plan.{OutputTexts, Plan, Draft, plan_from}
use Rattle.octets.proofs.Lemmas.{meaning_of_text, has_url_characters, IsOctets-drop, steps, passed, same_answer}
use Rattle.ciphers.specs.Openings.{is_longer}
use Rattle.ciphers.specs.Sealing.{Sealed, Sealing, IsTooLong, IsOpening}
use Rattle.ciphers.proofs.Lemmas.{longer_decided}
use Rattle.ciphers.specs.Algorithms.{encryption_name, management_algs}
use Rattle.keys.specs.Json.{member_numbers_are_whole}
use Rattle.keys.specs.JsonTexts.{AreJsonMembers}
use Rattle.keys.specs.Keys.{OctetKey, AreOctetKeys}
use Rattle.keys.specs.Limits.{Limits, are_few}
use Rattle.keys.proofs.Lemmas.{numbers_whole, url_texts_are_json}
use Rattle.objects.specs.Jwe.{RecipientParts, EncryptedObject, have_one_enc, has_no_crit_or_zip, encrypted_object, built, AreMembers, recipients_of_one_enc, jwe_text}
use Rattle.objects.specs.Texts.{header_depth, depth_of_each, handed_out}
use Rattle.objects.proofs.Lemmas.{all_images, jwe_is_built}
use Rattle.tokens.specs.Choosing.{RecipientKey, EncryptionPlan, read_encryption}
use Rattle.tokens.specs.Decrypting.{additional_authenticated_data}
use Rattle.tokens.specs.Delivering.{drawn_for_all}
use Rattle.tokens.specs.Encrypting.{cek_drawn, random_len, for_recipients, after_recipients, cek_by, iv_by, header_of, header_by, recipients_by, sealing_by, sealed_by, parts_by, encrypted, written_of, plan_by, enc_plan}
use Rattle.tokens.proofs.Encrypting.Deliver.{as_many_drawn, IsCek, Delivers, after_long, cek_by_is, drawn_by_each, each_delivered}
use Rattle.tokens.proofs.WrittenHeaders.Texts.{shallow_enough}
use Rattle.tokens.proofs.Encrypting.Recipients.{IsWritten, Writes, writes, given_by, made_by, recipients_are, recipients_are_read}
use Rattle.tokens.proofs.Each.{all_pass}
pub use Rattle.tokens.proofs.Encrypting.Recipients.{OctetLaws}
pub use Rattle.tokens.proofs.Encrypting.Settle.{Settles, settles}

-- ---- the object

-- the object that is made of the members
abbrev pub object_by : EncryptionPlan → List ℕ → Sealed → EncryptedObject
object_by e random s = record {
  protected = base64url (header_by e random);
  protected_members = header_of e random;
  unprotected = e.unprotected;
  iv = iv_by e random;
  aad = e.aad;
  ciphertext = s.ciphertext;
  tag = s.tag;
  recipients = map (made_by e (cek_by e random)) (drawn_by_each e random);
}

-- All recipients that are made have the chosen content encryption.
all_have_enc : (e : EncryptionPlan) (cek : List ℕ) (xs : List (RecipientKey × List ℕ))
    → list_all (λ r. bytes_eq r.enc (encryption_name e.encryption)) (map (made_by e cek) xs) ≡ true
all_have_enc e cek [] = refl
all_have_enc e cek (x ∷ rest) = and_from _ _ ((bytes_eq-Decides (encryption_name e.encryption) (encryption_name e.encryption)).1 refl) (all_have_enc e cek rest)

-- All recipients that are made have the same content encryption.
one_enc : (e : EncryptionPlan) (cek : List ℕ) (xs : List (RecipientKey × List ℕ)) → have_one_enc (map (made_by e cek) xs) ≡ true
one_enc e cek [] = refl
one_enc e cek (x ∷ rest) = all_have_enc e cek (x ∷ rest)

-- There are as many recipients as recipient keys.
as_many : (e : EncryptionPlan) (random : List ℕ) → length (map (given_by e (cek_by e random)) (drawn_by_each e random)) ≡ length e.recipient_keys
as_many e random = length-map (drawn_by_each e random) (given_by e (cek_by e random)) ∙ as_many_drawn e.recipient_keys (for_recipients e random)

-- The object is built from its members.
pub built_is : (limits : Limits) → limits.management ≡ management_algs → (keys : List OctetKey) (e : EncryptionPlan) (random : List ℕ) (s : Sealed)
    → Settles keys e → Writes e random → are_few limits (length e.recipient_keys) ≡ true
    → built limits (parts_by e random s) ≡ Ok (object_by e random s)
unfolding built encrypted_object recipients_of_one_enc
built_is limits known keys e random s by is few =
    let cek : List ℕ = cek_by e random in
    let xs : List (RecipientKey × List ℕ) = drawn_by_each e random in
    let header : Members = header_of e random in
    let given : RecipientKey × List ℕ → RecipientParts = given_by e cek in
    let n : ℕ = depth_of_each (length (map given xs)) in
    let unprotected_shallow : nat_le (depth (object e.unprotected)) header_depth ≡ true =
    shallow_enough (depth (object e.unprotected)) 1 by.unprotected.shallow in
    let unprotected_whole : member_numbers_are_whole e.unprotected ≡ true = numbers_whole (object e.unprotected) by.unprotected.json in
    let shallow : list_all (λ r. nat_le (depth (object r.header)) n) (map given xs) ≡ true =
    all_pass {P = IsWritten e random} (λ r. nat_le (depth (object r.header)) n) given
    (λ x w. shallow_enough (depth (object (given x).header)) (length (map given xs)) w.headed.written.shallow) xs is.each_written in
    let whole : list_all (λ r. member_numbers_are_whole r.header) (map given xs) ≡ true =
    all_pass {P = IsWritten e random} (λ r. member_numbers_are_whole r.header) given
    (λ x w. numbers_whole (object (given x).header) w.headed.written.json) xs is.each_written in
    let plain : list_all (λ r. has_no_crit_or_zip r.header) (map given xs) ≡ true =
    all_pass {P = IsWritten e random} (λ r. has_no_crit_or_zip r.header) given (λ x w. w.headed.written.plain) xs is.each_written in
    let some : nat_le 1 (length (map given xs)) ≡ true = ap (nat_le 1) (as_many e random) ∙ le-leb 1 (length e.recipient_keys) by.some in
    let few_given : are_few limits (length (map given xs)) ≡ true = ap (λ k. are_few limits k) (as_many e random) ∙ few in
    rw (
      known,
      recipients_are e random,
      unprotected_shallow,
      shallow,
      unprotected_whole,
      whole,
      some,
      few_given,
      meaning_of_text (header_by e random) is.back.octets,
      is.back.members,
      recipients_are_read keys e random by is,
      one_enc e cek xs,
      is.header.plain,
      by.unprotected.plain,
      plain,
    ) refl

-- If an object is built, there are no more recipient keys than an object may have recipients.
pub few_recipient_keys : (limits : Limits) (e : EncryptionPlan) (random : List ℕ) (s : Sealed) (o : EncryptedObject) → built limits (parts_by e random s) ≡ Ok o
    → are_few limits (length e.recipient_keys) ≡ true
few_recipient_keys limits e random s o made =
    let given : length (recipients_by e random) ≡ length e.recipient_keys = rw recipients_are (as_many e random) in
    ap (λ k. are_few limits k) (sym given) ∙ (jwe_is_built limits (parts_by e random s) o made).few

-- ---- sealing

-- If a plaintext is sealed, it is not too long, and the result is its sealing.
pub sealed_is : (s : Sealing) (p : List ℕ) (made : Sealed) → sealed_by s p ≡ Ok made → (IsTooLong s p → ⊥) × (s.sealed p ≡ made)
unfolding sealed_by
sealed_is s p made h =
    let a = steps (needs (not (is_longer (length p) s.longest)) Limit) (λ short. Ok (s.sealed p)) made h in
    ((Decides-not _ (longer_decided (length p) s.longest)).0 (passed _ Limit a.0 a.1), same_answer (s.sealed p) made a.2)

-- ---- encryption

-- The result of encrypting with exactly as many random octets as are needed: the sealed plaintext and the object that is made of it. Each
-- recipient is delivered the content encryption key, the sealed plaintext opens to the plaintext, and the members are JSON or octets.
pub record IsEncrypted (limits : Limits) (e : EncryptionPlan) (random plaintext : List ℕ) (o : EncryptedObject) : Type 0 where
  pub sealed : Sealed
  pub delivers : AllByRecursion (Delivers e (cek_by e random)) (drawn_by_each e random)
  pub opens : IsOpening e.encryption (cek_by e random) (iv_by e random)
      (additional_authenticated_data (base64url (header_by e random)) e.aad) sealed.ciphertext sealed.tag plaintext
  pub members : AreMembers (parts_by e random sealed)
  pub made : built limits (parts_by e random sealed) ≡ Ok o
  pub is : object_by e random sealed ≡ o

-- The members are JSON or octets.
are_members : (keys : List OctetKey) (e : EncryptionPlan) (random : List ℕ) (s : Sealed) → Settles keys e → Writes e random → IsOctets random
    → IsOctets s.ciphertext → IsOctets s.tag → AreMembers (parts_by e random s)
are_members keys e random s by w random_octets ciphertext tag =
    let later : List ℕ = after_recipients e random in
    let P : RecipientParts → Type 0 = λ r. AreJsonMembers r.header × IsOctets r.encrypted_key in
    record {
      protected = (url_texts_are_json (base64url (header_by e random)) (has_url_characters (header_by e random) w.back.octets)).0;
      unprotected = by.unprotected.json;
      iv = IsOctets-drop (cek_drawn e) later (IsOctets-drop (drawn_for_all e.recipient_keys) random random_octets);
      aad = by.aad;
      ciphertext = ciphertext;
      tag = tag;
      recipients = rw recipients_are (all_images {P = IsWritten e random} P (given_by e (cek_by e random))
          (λ x is. (is.headed.written.json, is.ready.encrypted)) (drawn_by_each e random) w.each_written);
    }

-- Encryption seals the plaintext and then builds the object.
pub encrypting_steps : (limits : Limits) (e : EncryptionPlan) (random plaintext : List ℕ) (o : EncryptedObject) → encrypted limits e random plaintext ≡ Ok o
    → (s : Sealed) × (sealed_by (sealing_by e random) plaintext ≡ Ok s) × (built limits (parts_by e random s) ≡ Ok o)
unfolding encrypted
encrypting_steps limits e random plaintext o h = steps (sealed_by (sealing_by e random) plaintext) (λ s. built limits (parts_by e random s)) o h

-- If an object is encrypted, all these facts hold of it.
pub is_encrypted : OctetLaws → (limits : Limits) → limits.management ≡ management_algs
    → (keys : List OctetKey) (e : EncryptionPlan) (random plaintext : List ℕ) (o : EncryptedObject) → AreOctetKeys keys → IsOctets random → IsOctets plaintext
    → length random ≡ random_len e → Settles keys e → encrypted limits e random plaintext ≡ Ok o → IsEncrypted limits e random plaintext o
is_encrypted laws limits known keys e random plaintext o key_octets random_octets octets long by h =
    let enc = e.encryption in
    let cek : List ℕ = cek_by e random in
    let iv : List ℕ = iv_by e random in
    let authentic : List ℕ = additional_authenticated_data (base64url (header_by e random)) e.aad in
    let made = encrypting_steps limits e random plaintext o h in
    let s : Sealed = made.0 in
    let sealed = sealed_is (sealing_by e random) plaintext s made.1 in
    let w : Writes e random = writes laws keys e random by key_octets random_octets long in
    let is_cek : IsCek e.encryption e.recipient_keys cek = cek_by_is keys e random by key_octets random_octets long in
    let delivers = each_delivered keys e random by key_octets random_octets long in
    let later : List ℕ = after_recipients e random in
    let start : IsOctets iv = IsOctets-drop (cek_drawn e) later (IsOctets-drop (drawn_for_all e.recipient_keys) random random_octets) in
    let opens : IsOpening enc cek iv authentic s.ciphertext s.tag plaintext = record {
      cek_fits = is_cek.fits;
      iv_fits = length-drop (cek_drawn e) later ∙ omega (arith, after_long e random long);
      opens = record {
        octets = octets;
        short = sealed.0;
        ciphertext = ap (λ (x : Sealed). x.ciphertext) sealed.1;
        is_tag = ap (λ (x : Sealed). x.tag) sealed.1;
      };
    } in
    let both = laws.opened enc cek iv authentic s.ciphertext s.tag plaintext is_cek.octets start opens in
    record {
      sealed = s;
      delivers = delivers;
      opens = opens;
      members = are_members keys e random s by w random_octets both.0 both.1;
      made = made.2;
      is = same_answer (object_by e random s) o (sym (built_is limits known keys e random s by w (few_recipient_keys limits e random s o made.2)) ∙ made.2);
    }

-- The texts that are written for an object are its text and, if the ciphertext is detached, its ciphertext next to it.
pub written_is : (compact detach : Bool) (o : EncryptedObject) (texts : OutputTexts) → written_of compact detach o ≡ Ok texts
    → (jwe_text compact detach o ≡ Ok texts.text) × (handed_out detach o.ciphertext ≡ texts.content)
written_is compact detach o texts h =
    let beside : List ℕ → OutputTexts = λ text. record { text = text; content = handed_out detach o.ciphertext } in
    let text = steps (jwe_text compact detach o) (λ text. Ok (beside text)) texts h in
    let same : beside text.0 ≡ texts = same_answer (beside text.0) texts text.2 in
    (text.1 ∙ ap (λ (t : OutputTexts). Ok t.text) same, ap (λ (t : OutputTexts). t.content) same)

-- If a plan is drawn, a template and keys settle an encryption, there are enough random octets, and the plan is that of the encryption.
pub plan_is : (limits : Limits) (compact detach : Bool) (keys : List OctetKey) (template random : List ℕ) (plan : Plan OutputTexts)
    → plan_from (enc_plan limits compact detach keys template) random ≡ Ok plan
    → (e : EncryptionPlan) × (read_encryption limits compact keys template ≡ Ok e) × (length (take (random_len e) random) ≡ random_len e)
    × (plan_by limits compact detach e (take (random_len e) random) ≡ plan)
unfolding enc_plan
plan_is limits compact detach keys template random plan h =
    let draft = steps (enc_plan limits compact detach keys template) _ plan h in
    let enough = steps (needs (nat_le draft.0.drawn (length random)) Random) _ plan draft.2 in
    let settled = steps (read_encryption limits compact keys template) _ draft.0 draft.1 in
    let e : EncryptionPlan = settled.0 in
    let made : Draft OutputTexts = record { drawn = random_len e; plan = plan_by limits compact detach e } in
    let same : made ≡ draft.0 = same_answer made draft.0 settled.2 in
    let room : nat_le (random_len e) (length random) ≡ true = ap (λ (d : Draft OutputTexts). nat_le d.drawn (length random)) same
    ∙ passed _ Random enough.0 enough.1 in
    let whole : plan_by limits compact detach e (take (random_len e) random) ≡ plan = ap (λ (d : Draft OutputTexts). d.plan (take d.drawn random)) same
    ∙ same_answer _ plan enough.2 in
    (e, settled.1, length-take-le (random_len e) random (leb-true (random_len e) (length random) room), whole)
