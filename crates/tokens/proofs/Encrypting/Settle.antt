-- The encryption that a template and keys settle: headers that may be written, and a recipient key for each key, in order. The joint header
-- awaits the parameters of each recipient key.
use Rattle.std.proofs.Common.{◌≡◌, ℕ, zero, suc, ◌*◌, ◌≤◌, ◌&&◌, ◌==◌, Bool, true, false, nat_le, List, [], ◌∷◌, length, map, codes, if◌then◌else◌, Option, Some, None, is_some, Result, Ok, Err, refl, sym, ◌∙◌, ap, subst, arith}
use Rattle.std.proofs.lemmas.Bool.{and_parts, leb-true}
use Rattle.std.proofs.lemmas.List.{map-id}
use Rattle.std.specs.List.{AllByRecursion, list_all}
use Rattle.serde_json.specs.Data.{Data, Members, no_members, string}
use Rattle.serde_json.specs.Find.{get_member, as_str}
use Rattle.octets.specs.declared.refusal.Refusal.{Refusal}
use Rattle.octets.specs.declared.refusal.Refusal.TheVariants.{Header, KeyDoesNotFit, Limit, NotCompact}
use Rattle.octets.specs.Octets.{IsOctets}
use Rattle.octets.specs.Outcomes.{needs}
use Rattle.keys.specs.declared.algorithm.Algorithm.TheVariants.{Encryption as EncryptionWith}
use Rattle.ciphers.specs.declared.content_alg.ContentAlg.{ContentAlg}
use Rattle.ciphers.specs.declared.key_alg.KeyAlg.{KeyAlg}
use Rattle.ciphers.specs.Algorithms.{management_name, encryption_name, is_password_based}
use Rattle.keys.specs.Algorithms.{management_operations}
use Rattle.keys.specs.Json.{json_value}
use Rattle.keys.specs.Keys.{OctetKey, allows, fits}
use Rattle.keys.specs.Limits.{Limits}
use Rattle.keys.proofs.Lemmas.{reads_json}
use Rattle.objects.specs.Headers.{are_disjoint, all_members, parameter_if_there}
use Rattle.objects.specs.Texts.{each}
use Rattle.objects.proofs.Lemmas.{all_passed, all_then, all_both, each_keeps, Entries}
use Rattle.octets.proofs.Lemmas.{steps, passed, same_answer}
use Rattle.tokens.specs.Choosing.{chosen_management, RecipientKey, recipient_key_by, is_alone, direct_key_is_alone, encryption_for, may_encrypt, password_count, chosen_p2c, p2c_may_be_written, with_name, is_given, EncryptionPlan, compact_has_room, settle_encryption, read_encryption}
use Rattle.tokens.specs.Encrypting.{AreSound}
use Rattle.tokens.specs.EncryptionTemplate.{AlgorithmsAsked, EncryptionTemplate, encryption_template}
use Rattle.tokens.specs.Template.{is_shallow, is_empty}
use Rattle.tokens.proofs.Encrypting.Templates.{Asks, IsTemplate, is_template}
use Rattle.tokens.proofs.WrittenHeaders.Texts.{stands}
use Rattle.tokens.proofs.WrittenHeaders.Joint.{put_onto, IsJoint, into_protected, IsHeader}
use Rattle.tokens.proofs.Encrypting.Parameters.{unless, free_unless, IsGiven, not_given, nothing_there, given_if_asked, there_with, as_count, with_name_is, Counted, Awaits, still_awaits, header_with_enc}
use Rattle.tokens.proofs.Each.{each_gives}

-- the joint header before anything is written for a recipient
abbrev pub joint_of : EncryptionPlan → Members
joint_of e = all_members e.protected e.unprotected no_members

-- the joint header awaits the parameters of a recipient
abbrev pub AwaitsRecipient : EncryptionPlan → RecipientKey → Type 0
AwaitsRecipient e r = Awaits e.given.alg e.given.p2c (is_password_based r.management) (management_name r.management) e.p2c (joint_of e)

-- the joint header awaits the parameters, and the key fits
pub record Receives (e : EncryptionPlan) (r : RecipientKey) : Type 0 where
  pub fit : fits r.key (EncryptionWith r.management e.encryption) ≡ true
  pub awaits : AwaitsRecipient e r

-- There is at least one recipient key. The recipient keys are those of the keys in order, and a key that is used directly is the only one.
-- The headers may be written and have no name in common. The joint header names the content encryption, and the additional data are octets.
pub record Settles (keys : List OctetKey) (e : EncryptionPlan) : Type 0 where
  pub keys_are : map (λ r. r.key) e.recipient_keys ≡ keys
  pub some : 1 ≤ length e.recipient_keys
  pub together : direct_key_is_alone e.recipient_keys ≡ true
  pub receive : AllByRecursion (Receives e) e.recipient_keys
  pub enc : parameter_if_there as_str (get_member (codes "enc") (joint_of e)) ≡ Ok (Some (encryption_name e.encryption))
  pub disjoint : are_disjoint e.protected e.unprotected no_members ≡ true
  pub protected : IsHeader e.protected
  pub unprotected : IsHeader e.unprotected
  pub aad : IsOctets e.aad

-- the iterations of each password, and of all together, are within the limits of reading
pub record TakesFew (limits : Limits) (e : EncryptionPlan) : Type 0 where
  pub each_few : AllByRecursion (λ r. is_password_based r.management ≡ true → e.p2c ≤ limits.greatest_p2c_read) e.recipient_keys
  pub all_few : password_count e.recipient_keys * e.p2c ≤ limits.p2c_sum

-- ---- the algorithms

-- A recipient key has the key that it was made of.
key_is : (asked : Option KeyAlg) (key : OctetKey) (r : RecipientKey) → recipient_key_by asked key ≡ Ok r → r.key ≡ key
unfolding recipient_key_by
key_is asked key r h =
    let a = steps (chosen_management asked key) _ r h in
    ap (λ (r : RecipientKey). r.key) (sym (same_answer _ r a.2))

-- If the template names a key management algorithm, a recipient key has it.
management_kept : (asked : Option KeyAlg) (key : OctetKey) (r : RecipientKey) → recipient_key_by asked key ≡ Ok r → (a : KeyAlg)
    → asked ≡ Some a → a ≡ r.management
unfolding recipient_key_by
management_kept None key r h a e = cc e
management_kept (Some b) key r h a e =
    let same : record { key = key; management = b } ≡ r = same_answer _ r h in
    let asks : b ≡ a = cc e in
    sym asks ∙ ap (λ (r : RecipientKey). r.management) same

-- If the template names a content encryption, it is chosen. There is a recipient key.
encryption_kept : (asked : Option ContentAlg) (recipient_keys : List RecipientKey) (enc : ContentAlg)
    → encryption_for asked recipient_keys ≡ Ok enc
    → (1 ≤ length recipient_keys) × ((a : ContentAlg) → asked ≡ Some a → a ≡ enc)
encryption_kept asked [] enc h = cc h
encryption_kept None (r ∷ rest) enc h = (omega arith, λ a e. cc e)
encryption_kept (Some b) (r ∷ rest) enc h = (omega arith, λ a e. cc (e, h))

-- ---- the iterations

-- If a recipient key is a password, the number of passwords is not 0.
password_counts : (recipient_keys : List RecipientKey) (n : ℕ) → password_count recipient_keys ≤ n
    → AllByRecursion (λ r. is_password_based r.management ≡ true → 1 ≤ n) recipient_keys
password_counts [] n few = tt
password_counts (r ∷ rest) n few = by_test (is_password_based r.management) refl (password_counts rest n) few
  where
    by_test : (password : Bool) → is_password_based r.management ≡ password
        → (password_count rest ≤ n → AllByRecursion (λ r. is_password_based r.management ≡ true → 1 ≤ n) rest)
        → (if password then suc (password_count rest) else password_count rest) ≤ n
        → AllByRecursion (λ r. is_password_based r.management ≡ true → 1 ≤ n) (r ∷ rest)
    by_test true is later few = (λ e. omega (arith, few), later (omega (arith, few)))
    by_test false is later few = (λ e. cc (is, e), later few)

-- ---- everything that is settled

-- the encryption with these recipient keys, algorithms and headers
abbrev encryption_by : EncryptionTemplate → List RecipientKey → ContentAlg → ℕ → Members → EncryptionPlan
encryption_by t recipient_keys encryption p2c protected = record {
  encryption = encryption;
  recipient_keys = recipient_keys;
  given = record { alg = is_some t.asked.management; p2c = is_given t.asked.p2c };
  p2c = p2c;
  protected = protected;
  unprotected = t.unprotected;
  aad = t.aad;
}

-- compact form, if it is asked for, has room for the encryption
abbrev pub holds_no_more : Bool → EncryptionPlan → Bool
holds_no_more compact e = if compact then is_alone e.recipient_keys && (is_empty e.unprotected && (length e.aad == 0)) else true

-- the protected header with the name of the content encryption
abbrev with_enc : EncryptionTemplate → ContentAlg → Members
with_enc t enc = with_name (is_some t.asked.encryption) (codes "enc") (encryption_name enc) t.protected

-- A recipient key that may encrypt and whose parameters are awaited receives the content encryption key.
receives : (e : EncryptionPlan) (r : RecipientKey) → may_encrypt e.encryption r ≡ true → AwaitsRecipient e r → Receives e r
receives e r may awaits = record {
  fit = (and_parts (allows r.key (management_operations r.management).0) (fits r.key (EncryptionWith r.management e.encryption)) may).1;
  awaits = awaits;
}

-- ---- if everything that may be written may be read
module _ (limits : Limits) (sound : AreSound limits) where
  -- If the number of iterations may be written, it is at least 1 and within the limits.
  within : (n p2c : ℕ) → p2c_may_be_written limits (suc n) p2c ≡ true → (1 ≤ p2c) × (p2c ≤ limits.greatest_p2c) × (suc n * p2c ≤ limits.p2c_sum)
  within n p2c h =
      let first = and_parts (nat_le limits.least_p2c p2c) (nat_le p2c limits.greatest_p2c && nat_le (suc n * p2c) limits.p2c_sum) h in
      let second = and_parts (nat_le p2c limits.greatest_p2c) (nat_le (suc n * p2c) limits.p2c_sum) first.1 in
      let least : limits.least_p2c ≤ p2c = leb-true limits.least_p2c p2c first.0 in
      (omega (arith, least, sound.some), leb-true p2c limits.greatest_p2c second.0, leb-true (suc n * p2c) limits.p2c_sum second.1)

  -- All passwords together need few enough iterations.
  few_iterations : (n p2c : ℕ) → p2c_may_be_written limits n p2c ≡ true → n * p2c ≤ limits.p2c_sum
  few_iterations zero p2c h = omega arith
  few_iterations (suc n) p2c h = (within n p2c h).2

  -- Each password needs no more iterations than may be read.
  each_few : (recipient_keys : List RecipientKey) (n p2c : ℕ) → p2c_may_be_written limits n p2c ≡ true
      → AllByRecursion (λ r. is_password_based r.management ≡ true → 1 ≤ n) recipient_keys
      → AllByRecursion (λ r. is_password_based r.management ≡ true → p2c ≤ limits.greatest_p2c_read) recipient_keys
  each_few recipient_keys zero p2c h some = all_then _ _ (λ r none password. absurd (omega (arith, none password))) recipient_keys some
  each_few recipient_keys (suc n) p2c h some = all_then _ _ (λ r _ password. omega (arith, (within n p2c h).1, sound.read)) recipient_keys some

  -- If there are passwords, the header has the number of iterations or none.
  counted : (n : ℕ) (asked : Result (Option ℕ) Refusal) (p2c : ℕ) (header : Members) → parameter_if_there as_count (get_member (codes "p2c") header) ≡ asked
      → chosen_p2c limits n asked ≡ Ok p2c
      → p2c_may_be_written limits n p2c ≡ true → 1 ≤ n → Counted (is_given asked) p2c header
  counted zero asked p2c header is chosen written some = absurd (omega arith)
  counted (suc n) (Err refusal) p2c header is chosen written some = cc chosen
  counted (suc n) (Ok None) p2c header is chosen written some =
      let count = within n p2c written in
      record { there = nothing_there as_count (get_member (codes "p2c") header) is; some = count.0; whole = omega (arith, count.1, sound.whole) }
  counted (suc n) (Ok (Some m)) p2c header is chosen written some =
      let count = within n p2c written in
      record { there = is ∙ ap (λ k. Ok (Some k)) (same_answer m p2c chosen); some = count.0; whole = omega (arith, count.1, sound.whole) }

  -- The joint header of a template awaits the parameters of each recipient.
  awaits : (p u : Members) (asked : AlgorithmsAsked) (recipient_keys : List RecipientKey) (p2c : ℕ) → Asks p u asked
      → chosen_p2c limits (password_count recipient_keys) asked.p2c ≡ Ok p2c
      → p2c_may_be_written limits (password_count recipient_keys) p2c ≡ true → (r : RecipientKey)
      → ((a : KeyAlg) → asked.management ≡ Some a → a ≡ r.management)
      → (is_password_based r.management ≡ true → 1 ≤ password_count recipient_keys)
      → Awaits (is_some asked.management) (is_given asked.p2c) (is_password_based r.management) (management_name r.management) p2c (all_members p u no_members)
  awaits p u asked recipient_keys p2c is chosen written r named some =
      let header = all_members p u no_members in
      record {
        alg_there = given_if_asked as_str management_name (get_member (codes "alg") header) asked.management r.management is.management named;
        count = λ password. counted (password_count recipient_keys) asked.p2c p2c header is.count chosen written (some password);
        no_salt = is.no_salt;
        no_iv = is.no_iv;
        no_tag = is.no_tag;
      }

  -- the choices for a template and keys, one step after another
  record IsChosen (compact : Bool) (keys : List OctetKey) (t : EncryptionTemplate) (recipient_keys : List RecipientKey) (enc : ContentAlg)
      (p2c : ℕ) : Type 0 where
    by_keys : each (recipient_key_by t.asked.management) keys ≡ Ok recipient_keys
    together : direct_key_is_alone recipient_keys ≡ true
    encryption : encryption_for t.asked.encryption recipient_keys ≡ Ok enc
    fit : list_all (may_encrypt enc) recipient_keys ≡ true
    count : chosen_p2c limits (password_count recipient_keys) t.asked.p2c ≡ Ok p2c
    shallow : (is_shallow limits t.protected && is_shallow limits t.unprotected) ≡ true
    written : p2c_may_be_written limits (password_count recipient_keys) p2c ≡ true
    alone : compact_has_room compact recipient_keys t ≡ true

  -- An encryption that is settled consists of the choices of these steps.
  chosen : (compact : Bool) (keys : List OctetKey) (t : EncryptionTemplate) (e : EncryptionPlan) → settle_encryption limits compact keys t ≡ Ok e
      → (recipient_keys : List RecipientKey) × (enc : ContentAlg) × (p2c : ℕ) × IsChosen compact keys t recipient_keys enc p2c
      × (encryption_by t recipient_keys enc p2c (with_enc t enc) ≡ e)
  unfolding settle_encryption
  chosen compact keys t e h =
      let recipient_keys = steps (each (recipient_key_by t.asked.management) keys) _ e h in
      let together = steps (needs (direct_key_is_alone recipient_keys.0) Header) _ e recipient_keys.2 in
      let encryption = steps (encryption_for t.asked.encryption recipient_keys.0) _ e together.2 in
      let fit = steps (needs (list_all (may_encrypt encryption.0) recipient_keys.0) KeyDoesNotFit) _ e encryption.2 in
      let p2c = steps (chosen_p2c limits (password_count recipient_keys.0) t.asked.p2c) _ e fit.2 in
      let shallow = steps (needs (is_shallow limits t.protected && is_shallow limits t.unprotected) Limit) _ e p2c.2 in
      let written = steps (needs (p2c_may_be_written limits (password_count recipient_keys.0) p2c.0) Limit) _ e shallow.2 in
      let alone = steps (needs (compact_has_room compact recipient_keys.0 t) NotCompact) _ e written.2 in
      let all : IsChosen compact keys t recipient_keys.0 encryption.0 p2c.0 = record {
        by_keys = recipient_keys.1;
        together = passed _ Header together.0 together.1;
        encryption = encryption.1;
        fit = passed _ KeyDoesNotFit fit.0 fit.1;
        count = p2c.1;
        shallow = passed _ Limit shallow.0 shallow.1;
        written = passed _ Limit written.0 written.1;
        alone = passed _ NotCompact alone.0 alone.1;
      } in
      (recipient_keys.0, encryption.0, p2c.0, all, same_answer _ e alone.2)

  -- An encryption with these choices is settled.
  settled_by : (compact : Bool) (keys : List OctetKey) (t : EncryptionTemplate) (rs : List RecipientKey) (enc : ContentAlg) (p2c : ℕ) → IsTemplate t
      → IsChosen compact keys t rs enc p2c
      → Settles keys (encryption_by t rs enc p2c (with_enc t enc)) × TakesFew limits (encryption_by t rs enc p2c (with_enc t enc))
  settled_by compact keys t rs enc p2c is by =
      let header : Members = all_members t.protected t.unprotected no_members in
      let given : Bool = is_some t.asked.encryption in
      let value : Data = string (encryption_name enc) in
      let entry : Entries = (codes "enc", unless given value) ∷ [] in
      let kept = encryption_kept t.asked.encryption rs enc by.encryption in
      let enc_there : IsGiven as_str given (get_member (codes "enc") header) (encryption_name enc) =
      given_if_asked as_str encryption_name (get_member (codes "enc") header) t.asked.encryption enc is.asks.encryption kept.1 in
      let joint : IsJoint (put_onto t.protected entry) t.unprotected no_members entry header =
      into_protected t.protected t.unprotected entry is.asks.disjoint
      (free_unless given header (codes "enc") value (not_given as_str given (get_member (codes "enc") header) (encryption_name enc) enc_there), tt) in
      let both = and_parts (is_shallow limits t.protected) (is_shallow limits t.unprotected) by.shallow in
      let e : EncryptionPlan = encryption_by t rs enc p2c (put_onto t.protected entry) in
      let named_each : AllByRecursion (λ r. (a : KeyAlg) → t.asked.management ≡ Some a → a ≡ r.management) rs =
      each_gives (recipient_key_by t.asked.management) (management_kept t.asked.management) keys rs by.by_keys in
      let counts = password_counts rs (password_count rs) (omega arith) in
      let awaits_each : AllByRecursion (AwaitsRecipient e) rs =
      all_both (λ r named some.
      still_awaits e.given.alg e.given.p2c (is_password_based r.management) (management_name r.management) p2c header (joint_of e)
      (joint.members (codes "alg")) (joint.members (codes "p2c")) (joint.members (codes "p2s")) (joint.members (codes "iv")) (joint.members (codes "tag"))
      (awaits t.protected t.unprotected t.asked rs p2c is.asks by.count by.written r named some)) rs named_each counts in
      let settles : Settles keys e = record {
        keys_are = each_keeps (recipient_key_by t.asked.management) (λ key. key) (λ r. r.key) (key_is t.asked.management) keys rs by.by_keys ∙ map-id keys;
        some = kept.0;
        together = by.together;
        receive = all_both (receives e) rs (all_passed (may_encrypt enc) rs by.fit) awaits_each;
        enc = ap (parameter_if_there as_str) (joint.members (codes "enc"))
            ∙ there_with as_str given value (encryption_name enc) (get_member (codes "enc") header) refl enc_there;
        disjoint = joint.disjoint;
        protected = header_with_enc given enc t.protected (record
            { json = is.protected; shallow = stands limits t.protected sound.depth both.0; plain = is.asks.plain });
        unprotected = record { json = is.unprotected; shallow = stands limits t.unprotected sound.depth both.1; plain = is.asks.unprotected_plain };
        aad = is.aad;
      } in
      let few : TakesFew limits e = record {
        each_few = each_few rs (password_count rs) p2c by.written counts;
        all_few = few_iterations (password_count rs) p2c by.written;
      } in
      subst (λ p. Settles keys (encryption_by t rs enc p2c p) × TakesFew limits (encryption_by t rs enc p2c p))
      (sym (with_name_is given (codes "enc") (encryption_name enc) t.protected))
      (settles, few)

  -- The encryption that a template's text and keys settle has all these properties.
  settled : (compact : Bool) (keys : List OctetKey) (template : List ℕ) (e : EncryptionPlan) → read_encryption limits compact keys template ≡ Ok e
      → Settles keys e × TakesFew limits e × (holds_no_more compact e ≡ true)
  unfolding read_encryption
  settled compact keys template e h =
      let value = steps (json_value template) _ e h in
      let t = steps (encryption_template value.0) _ e value.2 in
      let by = chosen compact keys t.0 e t.2 in
      let is = is_template value.0 t.0 (reads_json template value.0 value.1).0 t.1 in
      let both = settled_by compact keys t.0 by.0 by.1 by.2 is by.3 in
      subst (λ e. Settles keys e × TakesFew limits e × (holds_no_more compact e ≡ true)) by.4 (both.0, both.1, by.3.alone)

  -- Keys and a template settle the encryption that is read from them.
  pub settles : (compact : Bool) (keys : List OctetKey) (template : List ℕ) (e : EncryptionPlan)
      → read_encryption limits compact keys template ≡ Ok e → Settles keys e
  settles compact keys template e h = (settled compact keys template e h).0

  -- The encryption needs few enough iterations.
  pub takes_few : (compact : Bool) (keys : List OctetKey) (template : List ℕ) (e : EncryptionPlan)
      → read_encryption limits compact keys template ≡ Ok e → TakesFew limits e
  takes_few compact keys template e h = (settled compact keys template e h).1

  -- If compact form is asked for, it has room for the encryption.
  pub stands_alone : (compact : Bool) (keys : List OctetKey) (template : List ℕ) (e : EncryptionPlan) → read_encryption limits compact keys template ≡ Ok e
      → holds_no_more compact e ≡ true
  stands_alone compact keys template e h = (settled compact keys template e h).2
