-- Every encrypted object is decrypted with each key alone that may decrypt.
use Rattle.std.proofs.Common.{◌≡◌, ℕ, ◌*◌, Bool, true, false, List, [], ◌∷◌, ◌++◌, length, map, take, drop, Some, Ok, refl, sym, ◌∙◌, ap, subst, arith}
use Rattle.std.specs.List.{AllByRecursion}
use Rattle.octets.specs.Octets.{IsOctets}
use Rattle.octets.specs.Outcomes.{◌>>=◌}
use Rattle.octets.specs.Plan.{OutputTexts, Plan, plan_from}
use Rattle.octets.proofs.Lemmas.{IsOctets-take, steps, same_answer}
use Rattle.ciphers.specs.Openings.{OpensExactly, DeliversExactly}
use Rattle.ciphers.specs.Sealing.{IsOpening}
use Rattle.keys.specs.declared.algorithm.Algorithm.TheVariants.{Encryption as EncryptionWith}
use Rattle.ciphers.specs.Algorithms.{management_algs}
use Rattle.keys.specs.Algorithms.{management_operations}
use Rattle.keys.specs.Keys.{OctetKey, AreOctetKeys, allows, fits}
use Rattle.keys.specs.Limits.{Limits}
use Rattle.objects.specs.Jwe.{JweParts, EncryptedObject, built, json_text, jwe_of, AreMembers, TextsSpellObjects, jwe_text}
use Rattle.objects.specs.Texts.{handed_in}
use Rattle.objects.proofs.Lemmas.{all_both}
use Rattle.tokens.specs.Algorithms.{parameters_by}
use Rattle.tokens.specs.Choosing.{RecipientKey, password_count, EncryptionPlan}
use Rattle.tokens.specs.Decrypting.{all_pairs, is_candidate, SealedContent, sealed_content, cek_of, opened_by, decrypted}
use Rattle.tokens.specs.Delivering.{drawn_for}
use Rattle.tokens.specs.Encrypting.{random_len, for_recipients, cek_by, encrypted, written_of, parts_by, enc_plan, AreSound, OpensNoOther, EncryptedDecrypts}
use Rattle.tokens.proofs.Beginnings.{handed_back}
use Rattle.tokens.proofs.Encrypting.Pairs.{algorithms_by, pair_by, TakeAtMost, take_at_most, Opens, first_opens, supported, opened_is_decrypted}
use Rattle.tokens.proofs.Encrypting.Deliver.{with_drawn, IsDrawn, as_many_drawn, Delivers, drawn_by_each, each_drawn}
use Rattle.tokens.proofs.Encrypting.Recipients.{made_by}
use Rattle.tokens.proofs.Encrypting.Objects.{OctetLaws, object_by, IsEncrypted, is_encrypted, written_is, plan_is}
use Rattle.tokens.proofs.Encrypting.Settle.{Receives, Settles, TakesFew, settles, takes_few}

-- the laws of ciphers and of objects
pub record Laws : Type 0 where
  pub octets : OctetLaws
  pub opens : OpensExactly
  pub delivers : DeliversExactly
  pub spells : TextsSpellObjects

-- The object is read from its text in either form, and from its ciphertext if this is detached.
text_is_read : Laws → (limits : Limits) (compact detach : Bool) (parts : JweParts) (o : EncryptedObject) (text : List ℕ) → AreMembers parts
    → built limits parts ≡ Ok o → jwe_text compact detach o ≡ Ok text
    → jwe_of limits (handed_in detach o.ciphertext) text ≡ Ok o
text_is_read laws limits true detach parts o text members is h = (laws.spells limits parts o members is detach).1 text h
text_is_read laws limits false detach parts o text members is h =
    ap (jwe_of limits (handed_in detach o.ciphertext)) (sym (same_answer (json_text detach o) text h)) ∙ (laws.spells limits parts o members is detach).0

-- The object is read from the texts that are written for it.
written_is_read : Laws → (limits : Limits) (compact detach : Bool) (parts : JweParts) (o : EncryptedObject) (texts : OutputTexts) → AreMembers parts
    → built limits parts ≡ Ok o → written_of compact detach o ≡ Ok texts
    → jwe_of limits (handed_in detach texts.content) texts.text ≡ Ok o
written_is_read laws limits compact detach parts o texts members is h =
    let written = written_is compact detach o texts h in
    let beside : handed_in detach texts.content ≡ handed_in detach o.ciphertext = ap (handed_in detach) (sym written.1) ∙ handed_back detach o.ciphertext in
    ap (λ content. jwe_of limits content texts.text) beside ∙ text_is_read laws limits compact detach parts o texts.text members is written.0

-- A key that may decrypt and fits is a candidate.
candidate_is : (e : EncryptionPlan) (r : RecipientKey) → allows r.key (management_operations r.management).1 ≡ true
    → fits r.key (EncryptionWith r.management e.encryption) ≡ true
    → is_candidate (algorithms_by e r) r.key ≡ true
unfolding is_candidate
candidate_is e r may fit = rw (may, fit) refl

-- A recipient that is delivered the key opens the sealed plaintext.
opened_is : Laws → (e : EncryptionPlan) (cek : List ℕ) (x : RecipientKey × List ℕ) (s : SealedContent) (plaintext : List ℕ) → IsOctets s.iv → Delivers e cek x
    → IsOpening e.encryption cek s.iv s.aad s.ciphertext s.tag plaintext → opened_by s (pair_by e cek x.0.key x) ≡ Some plaintext
unfolding opened_by cek_of
opened_is laws e cek x s plaintext start is opens =
    let r = made_by e cek x in
    rw ((laws.delivers x.0.management e.encryption x.0.key.octets (parameters_by r.management) r.encrypted_key cek is.key).1
    is.delivers)
    ((laws.opens e.encryption cek s.iv s.aad s.ciphertext s.tag plaintext is.delivers.octets start).1 opens)

-- A recipient's key that may decrypt opens the plaintext.
key_opens : Laws → (e : EncryptionPlan) (cek : List ℕ) (key : OctetKey) (x : RecipientKey × List ℕ) (s : SealedContent) (plaintext : List ℕ)
    → IsOctets s.iv → Receives e x.0
    → (x.0.key ≡ key → allows key (management_operations x.0.management).1 ≡ true) → Delivers e cek x
    → IsOpening e.encryption cek s.iv s.aad s.ciphertext s.tag plaintext → Opens e cek key s plaintext x
key_opens laws e cek key x s plaintext start receives may delivers opens same =
    let may_own : allows x.0.key (management_operations x.0.management).1 ≡ true = rw same (may same) in
    subst (λ k. (is_candidate (algorithms_by e x.0) k ≡ true) × (opened_by s (pair_by e cek k x) ≡ Some plaintext)) same
    (candidate_is e x.0 may_own receives.fit, opened_is laws e cek x s plaintext start delivers opens)

-- The keys of recipients with their octets are the keys of the recipients.
keys_of_drawn : (recipient_keys : List RecipientKey) (drawn : List ℕ) → map (λ x. x.0.key) (with_drawn recipient_keys drawn) ≡ map (λ r. r.key) recipient_keys
keys_of_drawn [] drawn = refl
keys_of_drawn (r ∷ rest) drawn = ap (λ keys. r.key ∷ keys) (keys_of_drawn rest (drop (drawn_for r) drawn))

-- The object is decrypted with each key alone that may decrypt.
decrypts : Laws → (limits : Limits) → limits.management ≡ management_algs
    → (before after : List OctetKey) (key : OctetKey) (e : EncryptionPlan) (random plaintext : List ℕ) (o : EncryptedObject) → Settles (before ++ key ∷ after) e
    → TakesFew limits e → IsOctets random
    → length random ≡ random_len e → AllByRecursion (λ r. r.key ≡ key → allows key (management_operations r.management).1 ≡ true) e.recipient_keys
    → (is : IsEncrypted limits e random plaintext o) → OpensNoOther (length before) key (object_by e random is.sealed) plaintext
    → decrypted limits (key ∷ []) (object_by e random is.sealed) ≡ Ok plaintext
decrypts laws limits known before after key e random plaintext o by few random_octets long may is only =
    let all : EncryptedObject = object_by e random is.sealed in
    let s : SealedContent = sealed_content all in
    let cek : List ℕ = cek_by e random in
    let xs : List (RecipientKey × List ℕ) = drawn_by_each e random in
    let P : RecipientKey → Type 0 = λ r. Receives e r × (r.key ≡ key → allows key (management_operations r.management).1 ≡ true) in
    let each_may : AllByRecursion (IsDrawn P) xs =
    each_drawn P e random (all_both (λ r receives may. (receives, may)) e.recipient_keys by.receive may) random_octets long in
    let each_opens : AllByRecursion (Opens e cek key s plaintext) xs =
    all_both (λ x may delivers. key_opens laws e cek key x s plaintext is.members.iv may.holds.0 may.holds.1 delivers is.opens) xs each_may is.delivers in
    let most : TakeAtMost limits.greatest_p2c_read (password_count e.recipient_keys * e.p2c) (all_pairs management_algs (key ∷ []) all.recipients) =
    take_at_most limits.greatest_p2c_read e cek key e.recipient_keys (for_recipients e random) few.each_few in
    opened_is_decrypted limits known key all plaintext (supported e cek xs (omega (arith, as_many_drawn e.recipient_keys (for_recipients e random), by.some)))
    (record { each_few = most.each_few; all_few = omega (arith, most.all_few, few.all_few) })
    (first_opens e cek key s plaintext before after xs (keys_of_drawn e.recipient_keys (for_recipients e random) ∙ by.keys_are) each_opens only)

-- The texts that are written are read as an object that is decrypted.
read_and_decrypted : Laws → (limits : Limits) → limits.management ≡ management_algs
    → (compact detach : Bool) (keys : List OctetKey) (e : EncryptionPlan) (random plaintext : List ℕ) (texts : OutputTexts)
    → AreOctetKeys keys → IsOctets random → IsOctets plaintext → length random ≡ random_len e → Settles keys e → TakesFew limits e
    → (encrypted limits e random plaintext >>= written_of compact detach) ≡ Ok texts
    → (o : EncryptedObject) × ((jwe_of limits (handed_in detach texts.content) texts.text ≡ Ok o)
    × ((before after : List OctetKey) (key : OctetKey) → keys ≡ before ++ key ∷ after
    → AllByRecursion (λ r. r.key ≡ key → allows key (management_operations r.management).1 ≡ true) e.recipient_keys
    → OpensNoOther (length before) key o plaintext → decrypted limits (key ∷ []) o ≡ Ok plaintext))
read_and_decrypted laws limits known compact detach keys e random plaintext texts key_octets random_octets octets long by few h =
    let o = steps (encrypted limits e random plaintext) (written_of compact detach) texts h in
    let is : IsEncrypted limits e random plaintext o.0 =
    is_encrypted laws.octets limits known keys e random plaintext o.0 key_octets random_octets octets long by o.1 in (
      o.0,
      (
        written_is_read laws limits compact detach (parts_by e random is.sealed) o.0 texts is.members is.made o.2,
        λ before after key among may.
            let by_key : Settles (before ++ key ∷ after) e = subst (λ keys. Settles keys e) among by in
            subst (λ o. OpensNoOther (length before) key o plaintext → decrypted limits (key ∷ []) o ≡ Ok plaintext) is.is
            (decrypts laws limits known before after key e random plaintext o.0 by_key few random_octets long may is),
      ),
    )

-- This holds of every encryption that keys and a template settle.
pub encrypted_decrypts : Laws → (limits : Limits) → AreSound limits → EncryptedDecrypts limits
encrypted_decrypts laws limits sound compact detach keys template random plaintext texts key_octets random_octets octets h =
    let plan = steps (plan_from (enc_plan limits compact detach keys template) random) (λ p. p.whole plaintext) texts h in
    let settled = plan_is limits compact detach keys template random plan.0 plan.1 in
    let e : EncryptionPlan = settled.0 in
    let o = read_and_decrypted laws limits sound.algorithms compact detach keys e (take (random_len e) random) plaintext texts key_octets
    (IsOctets-take (random_len e) random random_octets) octets settled.2
    (settles limits sound compact keys template e settled.1) (takes_few limits sound compact keys template e settled.1)
    (ap (λ (p : Plan OutputTexts). p.whole plaintext) settled.3 ∙ plan.2) in
    (o.0, (o.1.0, λ before after key among may. o.1.1 before after key among (may e settled.1)))
