-- Under wider limits every answer that is not Limit stays the same, except that of `jwe enc` if it leaves the number of iterations to the
-- limits.
use Rattle.std.proofs.Common.{◌≡◌, ◌≢◌, ◌≤◌, lit≤, ◌&&◌, ◌*◌, ◌||◌, ◌==◌, ℕ, zero, suc, nat_le, not, is_some, Bool, true, false, List, length, take, Option, None, Some, Result, Ok, Err, refl, sym, ap, subst, ◌∙◌, arith}
use Rattle.std.proofs.lemmas.Bool.{and_parts, and_from, eqb-true, leb-true, le-leb}
use Rattle.std.specs.List.{list_all, list_any}
use Rattle.serde_json.specs.Data.{Data, Items, no_items, item}
use Rattle.octets.specs.declared.refusal.Refusal.{Refusal}
use Rattle.octets.specs.declared.refusal.Refusal.TheVariants.{Random, Json, Number, Key, Form, Header, Unsupported, KeyDoesNotFit, Limit}
use Rattle.octets.specs.Base64url.{decoded}
use Rattle.octets.specs.Outcomes.{◌>>=◌, needs}
use Rattle.octets.specs.Plan.{OutputTexts, Draft, drawn_of, plan_from, planned}
use Rattle.keys.specs.Json.{json_value}
use Rattle.keys.specs.Keys.{OctetKey, octet_key, key_octets}
use Rattle.keys.specs.KeySets.{items_count, key_objects, octet_keys, value_keys, key_set}
use Rattle.keys.specs.Limits.{Limits, limits}
use Rattle.tokens.specs.MoreAlgorithms.{earlier_limits}
use Rattle.objects.specs.Jwe as jwe
use Rattle.objects.specs.Jws as jws
use Rattle.objects.specs.Texts.{each}
use Rattle.tokens.specs.Choosing.{RecipientKey, recipient_key_by, direct_key_is_alone, encryption_for, may_encrypt, password_count, chosen_p2c, p2c_may_be_written, is_given, EncryptionPlan, settle_encryption, read_encryption}
use Rattle.tokens.specs.Decrypting.{algorithms_of, Pair, all_pairs, has_pairs, iterations_of, all_iterations, are_within, pairs_to_try, decrypted}
use Rattle.tokens.specs.Encrypting.{random_len, sealing_by, sealed_by, parts_by, encrypted, plan_by, enc_plan}
use Rattle.tokens.specs.EncryptionTemplate.{EncryptionTemplate, encryption_template}
use Rattle.tokens.specs.Template.{is_shallow}
use Rattle.tokens.proofs.Lemmas.{all_pass_other}
use Rattle.tokens.specs.Jwe.{enc_answer, jwe_fmt_answer}
use Rattle.tokens.specs.Jws.{jws_fmt_answer}
use Rattle.jose.proofs.Headline.{ReadsAlike}
use Rattle.jose.specs.WiderLimits.{AreWider, StaysUnlessLimit, ReadsAsBefore, IsCounted, EncryptsAsBefore}

-- The limits of this profile are wider than the earlier ones.
pub these_are_wider : AreWider earlier_limits limits
these_are_wider = record {
  keys = refl;
  key_octets = refl;
  depth = refl;
  recipients = lit≤ tt;
  greatest_p2c_read = lit≤ tt;
  least_p2c = lit≤ tt;
  greatest_p2c = lit≤ tt;
  p2c_sum = lit≤ tt;
  management = refl;
}

-- ---- the steps of an answer

-- If an answer is the refusal Limit, its cause is Limit.
is_limit : {A : Type 0} (e : Refusal) → (let r : Result A Refusal = Err e in r) ≡ Err Limit → e ≡ Limit
is_limit e is = cc is

-- If both steps stay the same, so does the answer of both together.
then_stays : {A B : Type 0} (r s : Result A Refusal) (f g : A → Result B Refusal) → StaysUnlessLimit r s → ((x : A) → r ≡ Ok x → StaysUnlessLimit (f x) (g x))
    → StaysUnlessLimit (r >>= f) (s >>= g)
then_stays (Ok x) s f g first later not = rw (first (λ e. cc e)) (later x refl not)
then_stays (Err e) s f g first later not = rw (first (λ is. not (ap Err (is_limit e is)))) refl

-- An answer that is the same under both limits stays the same.
same_stays : {A : Type 0} (r s : Result A Refusal) → s ≡ r → StaysUnlessLimit r s
same_stays r s is not = is

-- If the second test passes whenever the first one does, the answer of a test for Limit stays the same.
test_stays : (a b : Bool) → (a ≡ true → b ≡ true) → StaysUnlessLimit (needs a Limit) (needs b Limit)
test_stays true b wider not = rw (wider refl) refl
test_stays false b wider not = absurd (not refl)

-- A number within a limit is within a wider one.
within_wider : (n a b : ℕ) → a ≤ b → nat_le n a ≡ true → nat_le n b ≡ true
within_wider n a b wider h = let few : n ≤ a = leb-true n a h in le-leb n b (omega (arith, few, wider))

-- If the next steps are the same for every value, so are the answers.
then_same : {A B : Type 0} (r : Result A Refusal) (f g : A → Result B Refusal) → ((x : A) → g x ≡ f x) → (r >>= g) ≡ (r >>= f)
then_same (Ok x) f g same = same x
then_same (Err e) f g same = refl

-- the draft of the plan that is settled
abbrev drafted : Limits → Bool → Bool → Result EncryptionPlan Refusal → Result (Draft OutputTexts) Refusal
drafted limits compact detach settled = settled >>= λ e. Ok (record { drawn = random_len e; plan = plan_by limits compact detach e })

abbrev settled_by : Limits → Bool → List ℕ → List ℕ → Result EncryptionPlan Refusal
settled_by limits compact keys template = key_set limits keys true >>= λ set. read_encryption limits compact set template

-- This is the draft of `jwe enc`.
draft_is : (limits : Limits) (compact detach : Bool) (keys template : List ℕ)
    → enc_answer limits compact detach keys template ≡ drafted limits compact detach (settled_by limits compact keys template)
unfolding enc_plan
draft_is limits compact detach keys template = by_set (key_set limits keys true)
  where
    by_set : (r : Result (List OctetKey) Refusal) → (r >>= λ set. enc_plan limits compact detach set template)
        ≡ drafted limits compact detach (r >>= λ set. read_encryption limits compact set template)
    by_set (Ok set) = refl
    by_set (Err e) = refl

-- the answer of the draft stays the same unless it is Limit, and so does the number of octets drawn unless the draft is Limit
abbrev DraftsAsBefore : Result (Draft OutputTexts) Refusal → Result (Draft OutputTexts) Refusal → List ℕ → List ℕ → Type 0
DraftsAsBefore a b random plaintext =
    StaysUnlessLimit (planned (plan_from a random) plaintext) (planned (plan_from b random) plaintext) × (a ≢ Err Limit → drawn_of b ≡ drawn_of a)

module _ (narrower wider : Limits) (wide : AreWider narrower wider) where
  -- ---- keys, which are read the same under both limits

  same_octets : (value : Data) → key_octets wider value ≡ key_octets narrower value
  unfolding key_octets
  same_octets value = rw (wide.key_octets) refl

  same_key : (value : Data) → octet_key wider value ≡ octet_key narrower value
  unfolding octet_key
  same_key value = rw (same_octets value) refl

  same_keys : (strict : Bool) (values : Items) → octet_keys wider strict values ≡ octet_keys narrower strict values
  same_keys strict no_items = refl
  same_keys strict (item value values) = rw (same_key value, same_keys strict values) refl

  same_set : (text : List ℕ) (strict : Bool) → key_set wider text strict ≡ key_set narrower text strict
  unfolding key_set value_keys
  same_set text strict =
      then_same (json_value text) _ _
      (λ value. then_same (key_objects value) _ _ (λ objects.
      ap (λ n. needs (nat_le (items_count objects) n) Limit >>= λ few. with_keys (octet_keys wider strict objects)) wide.keys
      ∙ ap (λ keys. needs (nat_le (items_count objects) narrower.keys) Limit >>= λ few. with_keys keys) (same_keys strict objects)))
    where
      with_keys : Result (List OctetKey) Refusal → Result (List OctetKey) Refusal
      with_keys read = read >>= λ keys. needs (not (length keys == 0)) Key >>= λ some. Ok keys

  -- ---- objects that are read

  jwe_stays : (detached : Option (List ℕ)) (text : List ℕ) → StaysUnlessLimit (jwe.jwe_of narrower detached text) (jwe.jwe_of wider detached text)
  unfolding jwe.jwe_of jwe.decoded_object
  jwe_stays detached text =
      then_stays (jwe.encoded_jwe detached text) (jwe.encoded_jwe detached text) _ _ (same_stays _ _ refl)
      (λ texts read.
      then_stays (needs (nat_le (length texts.recipients) narrower.recipients) Limit) (needs (nat_le (length texts.recipients) wider.recipients) Limit) _ _
      (test_stays _ _ (within_wider (length texts.recipients) narrower.recipients wider.recipients wide.recipients))
      (λ few passed.
      same_stays _ _ (ap (λ algs. decoded texts.protected >>= λ octets. jwe.decoded_members texts >>= λ parts. jwe.encrypted_object algs octets parts)
      wide.management)))

  jws_stays : (detached : Option (List ℕ)) (text : List ℕ) → StaysUnlessLimit (jws.jws_of narrower detached text) (jws.jws_of wider detached text)
  unfolding jws.jws_of jws.decoded_object
  jws_stays detached text =
      then_stays (jws.encoded_jws detached text) (jws.encoded_jws detached text) _ _ (same_stays _ _ refl)
      (λ texts read.
      then_stays (needs (nat_le (length texts.signatures) narrower.recipients) Limit) (needs (nat_le (length texts.signatures) wider.recipients) Limit) _ _
      (test_stays _ _ (within_wider (length texts.signatures) narrower.recipients wider.recipients wide.recipients))
      (λ few passed.
      same_stays _ _ (ap (λ algs. decoded texts.payload >>= λ payload. each jws.decoded_signature texts.signatures
      >>= λ signatures. jws.signed_object algs payload signatures) wide.management)))

  -- ---- iterations

  -- Pairs whose iterations are within the limits are within wider ones.
  within_both : (pairs : List Pair) → are_within narrower pairs ≡ true → are_within wider pairs ≡ true
  within_both pairs h =
      let both = and_parts (list_all (λ pair. nat_le (iterations_of pair) narrower.greatest_p2c_read) pairs)
      (nat_le (all_iterations pairs) narrower.p2c_sum) h in
      and_from (list_all (λ pair. nat_le (iterations_of pair) wider.greatest_p2c_read) pairs) (nat_le (all_iterations pairs) wider.p2c_sum)
      (all_pass_other (λ pair. nat_le (iterations_of pair) narrower.greatest_p2c_read) (λ pair. nat_le (iterations_of pair) wider.greatest_p2c_read) pairs
      (λ pair few. within_wider (iterations_of pair) narrower.greatest_p2c_read wider.greatest_p2c_read wide.greatest_p2c_read few) both.0)
      (within_wider (all_iterations pairs) narrower.p2c_sum wider.p2c_sum wide.p2c_sum both.1)

  tried_stay : (keys : List OctetKey) (recipients : List jwe.Recipient)
      → StaysUnlessLimit (pairs_to_try narrower keys recipients) (pairs_to_try wider keys recipients)
  unfolding pairs_to_try
  tried_stay keys recipients =
      rw wide.management
      (then_stays (needs (list_any (λ r. is_some (algorithms_of narrower.management r)) recipients) Unsupported) _ _ _ (same_stays _ _ refl)
      (λ supported passed.
      then_stays (needs (has_pairs (all_pairs narrower.management keys recipients)) KeyDoesNotFit) _ _ _ (same_stays _ _ refl)
      (λ candidates passed.
      then_stays (needs (are_within narrower (all_pairs narrower.management keys recipients)) Limit)
      (needs (are_within wider (all_pairs narrower.management keys recipients)) Limit) _ _
      (test_stays _ _ (within_both (all_pairs narrower.management keys recipients))) (λ few passed. same_stays _ _ refl))))

  decrypted_stays : (keys : List OctetKey) (o : jwe.EncryptedObject) → StaysUnlessLimit (decrypted narrower keys o) (decrypted wider keys o)
  unfolding decrypted
  decrypted_stays keys o =
      then_stays (pairs_to_try narrower keys o.recipients) (pairs_to_try wider keys o.recipients) _ _ (tried_stay keys o.recipients)
      (λ pairs tried. same_stays _ _ refl)

  -- ---- what is read

  pub reads_as_before : ReadsAsBefore narrower wider
  unfolding jws_fmt_answer jwe_fmt_answer
  reads_as_before = record {
    dec = λ keys detached text.
        then_stays (key_set narrower keys false) (key_set wider keys false) _ _ (same_stays _ _ (same_set keys false))
        (λ set read. then_stays (jwe.jwe_of narrower detached text) (jwe.jwe_of wider detached text) _ _ (jwe_stays detached text)
        (λ o read. decrypted_stays set o));
    ver = λ all wanted keys detached text.
        then_stays (key_set narrower keys false) (key_set wider keys false) _ _ (same_stays _ _ (same_set keys false))
        (λ set read. then_stays (jws.jws_of narrower detached text) (jws.jws_of wider detached text) _ _ (jws_stays detached text)
        (λ o read. same_stays _ _ refl));
    jws_fmt = λ compact detach detached text.
        then_stays (jws.jws_of narrower detached text) (jws.jws_of wider detached text) _ _ (jws_stays detached text) (λ o read. same_stays _ _ refl);
    jwe_fmt = λ compact detach detached text.
        then_stays (jwe.jwe_of narrower detached text) (jwe.jwe_of wider detached text) _ _ (jwe_stays detached text) (λ o read. same_stays _ _ refl);
  }

  -- ---- encrypting

  -- The same number of iterations is chosen if it is not left to the limits.
  same_count : (n : ℕ) (asked : Result (Option ℕ) Refusal) → (n == 0 || is_given asked) ≡ true → chosen_p2c wider n asked ≡ chosen_p2c narrower n asked
  same_count zero asked h = refl
  same_count (suc n) (Err e) h = refl
  same_count (suc n) (Ok (Some p2c)) h = refl
  same_count (suc n) (Ok None) h = absurd (by_test (suc n == 0) refl h)
    where
      by_test : (none : Bool) → (suc n == 0) ≡ none → (none || false) ≡ true → ⊥
      by_test true is h = let zero_is : suc n ≡ 0 = eqb-true (suc n) 0 is in absurd (omega (arith, zero_is))
      by_test false is h = cc h

  -- A number of iterations that may be written may also be written under wider limits.
  written_both : (n p2c : ℕ) → p2c_may_be_written narrower n p2c ≡ true → p2c_may_be_written wider n p2c ≡ true
  written_both zero p2c h = refl
  written_both (suc n) p2c h =
      let first = and_parts (nat_le narrower.least_p2c p2c) (nat_le p2c narrower.greatest_p2c && nat_le (suc n * p2c) narrower.p2c_sum) h in
      let second = and_parts (nat_le p2c narrower.greatest_p2c) (nat_le (suc n * p2c) narrower.p2c_sum) first.1 in
      let least : narrower.least_p2c ≤ p2c = leb-true narrower.least_p2c p2c first.0 in
      and_from (nat_le wider.least_p2c p2c) (nat_le p2c wider.greatest_p2c && nat_le (suc n * p2c) wider.p2c_sum)
      (le-leb wider.least_p2c p2c (omega (arith, least, wide.least_p2c)))
      (and_from (nat_le p2c wider.greatest_p2c) (nat_le (suc n * p2c) wider.p2c_sum)
      (within_wider p2c narrower.greatest_p2c wider.greatest_p2c wide.greatest_p2c second.0)
      (within_wider (suc n * p2c) narrower.p2c_sum wider.p2c_sum wide.p2c_sum second.1))

  -- The headers may nest as deep as before.
  same_depth : (t : EncryptionTemplate) → (is_shallow wider t.protected && is_shallow wider t.unprotected)
      ≡ (is_shallow narrower t.protected && is_shallow narrower t.unprotected)
  same_depth t = rw (wide.depth) refl

  with_stays : (compact : Bool) (keys : List OctetKey) (t : EncryptionTemplate)
      → ((receivers : List RecipientKey) → each (recipient_key_by t.asked.management) keys ≡ Ok receivers
      → (password_count receivers == 0 || is_given t.asked.p2c) ≡ true)
      → StaysUnlessLimit (settle_encryption narrower compact keys t) (settle_encryption wider compact keys t)
  unfolding settle_encryption
  with_stays compact keys t counted =
      then_stays (each (recipient_key_by t.asked.management) keys) _ _ _ (same_stays _ _ refl)
      (λ receivers by_keys.
      then_stays (needs (direct_key_is_alone receivers) Header) _ _ _ (same_stays _ _ refl)
      (λ together passed.
      then_stays (encryption_for t.asked.encryption receivers) _ _ _ (same_stays _ _ refl)
      (λ encryption chosen.
      then_stays (needs (list_all (may_encrypt encryption) receivers) KeyDoesNotFit) _ _ _ (same_stays _ _ refl)
      (λ fit passed.
      then_stays (chosen_p2c narrower (password_count receivers) t.asked.p2c) (chosen_p2c wider (password_count receivers) t.asked.p2c) _ _
      (same_stays _ _ (same_count (password_count receivers) t.asked.p2c (counted receivers by_keys)))
      (λ p2c chosen.
      then_stays (needs (is_shallow narrower t.protected && is_shallow narrower t.unprotected) Limit) _ _ _
      (same_stays _ _ (ap (λ b. needs b Limit) (same_depth t)))
      (λ shallow passed.
      then_stays (needs (p2c_may_be_written narrower (password_count receivers) p2c) Limit)
      (needs (p2c_may_be_written wider (password_count receivers) p2c) Limit) _ _
      (test_stays _ _ (written_both (password_count receivers) p2c)) (λ written passed. same_stays _ _ refl)))))))

  encryption_stays : (compact : Bool) (keys : List OctetKey) (text : List ℕ) → IsCounted keys text
      → StaysUnlessLimit (read_encryption narrower compact keys text) (read_encryption wider compact keys text)
  unfolding read_encryption
  encryption_stays compact keys text counted =
      then_stays (json_value text) _ _ _ (same_stays _ _ refl)
      (λ value read.
      then_stays (encryption_template value) _ _ _ (same_stays _ _ refl)
      (λ t is. with_stays compact keys t (λ receivers by_keys. counted value t receivers read is by_keys)))

  -- The answer of a settled plan for a plaintext stays the same unless it is Limit.
  whole_stays : (compact detach : Bool) (e : EncryptionPlan) (random plaintext : List ℕ)
      → StaysUnlessLimit ((plan_by narrower compact detach e random).whole plaintext) ((plan_by wider compact detach e random).whole plaintext)
  unfolding encrypted jwe.built
  whole_stays compact detach e random plaintext =
      then_stays (encrypted narrower e random plaintext) (encrypted wider e random plaintext) _ _
      (then_stays (sealed_by (sealing_by e random) plaintext) _ _ _ (same_stays _ _ refl)
      (λ s sealed.
      let parts : jwe.JweParts = parts_by e random s in
      then_stays (needs (jwe.headers_are_shallow parts) Json) _ _ _ (same_stays _ _ refl)
      (λ shallow passed.
      then_stays (needs (jwe.have_whole_numbers parts) Number) _ _ _ (same_stays _ _ refl)
      (λ whole passed.
      then_stays (needs (nat_le 1 (length parts.recipients)) Form) _ _ _ (same_stays _ _ refl)
      (λ some passed.
      then_stays (needs (nat_le (length parts.recipients) narrower.recipients) Limit) (needs (nat_le (length parts.recipients) wider.recipients) Limit) _ _
      (test_stays _ _ (within_wider (length parts.recipients) narrower.recipients wider.recipients wide.recipients))
      (λ few passed. same_stays _ _ (ap (λ algs. decoded parts.protected >>= λ octets. jwe.encrypted_object algs octets parts) wide.management)))))))
      (λ o made. same_stays _ _ refl)

  -- If the settled plan stays the same, so do the answer of its draft and the number of octets drawn.
  planned_stays : (compact detach : Bool) (a b : Result EncryptionPlan Refusal) (random plaintext : List ℕ) → StaysUnlessLimit a b
      → DraftsAsBefore (drafted narrower compact detach a) (drafted wider compact detach b) random plaintext
  planned_stays compact detach (Err e) b random plaintext first =
      (λ not. rw (first (λ is. not (ap Err (is_limit e is)))) refl, λ not. rw (first (λ is. not (ap Err (is_limit e is)))) refl)
  planned_stays compact detach (Ok e) b random plaintext first =
      rw (first (λ is. cc is)) (by_test (nat_le (random_len e) (length random)), λ not. refl)
    where
      by_test : (enough : Bool)
          → StaysUnlessLimit ((needs enough Random >>= λ u. Ok (plan_by narrower compact detach e (take (random_len e) random))) >>= λ p. p.whole plaintext)
          ((needs enough Random >>= λ u. Ok (plan_by wider compact detach e (take (random_len e) random))) >>= λ p. p.whole plaintext)
      by_test true not = whole_stays compact detach e (take (random_len e) random) plaintext not
      by_test false not = refl

  -- ---- the answer of `jwe enc`

  pub encrypts_as_before : EncryptsAsBefore narrower wider
  encrypts_as_before compact detach keys template random plaintext counted =
      let settled : StaysUnlessLimit (settled_by narrower compact keys template) (settled_by wider compact keys template) =
      then_stays (key_set narrower keys true) (key_set wider keys true) _ _ (same_stays _ _ (same_set keys true))
      (λ set read. encryption_stays compact set template (counted set read)) in
      subst (λ a. DraftsAsBefore a (enc_answer wider compact detach keys template) random plaintext) (sym (draft_is narrower compact detach keys template))
      (subst (λ b. DraftsAsBefore (drafted narrower compact detach (settled_by narrower compact keys template)) b random plaintext)
      (sym (draft_is wider compact detach keys template))
      (planned_stays compact detach (settled_by narrower compact keys template) (settled_by wider compact keys template) random plaintext settled))

  -- ---- objects that were encrypted

  -- An object that is read and decrypted is read and decrypted the same under wider limits.
  pub reads_alike : ReadsAlike narrower wider
  reads_alike = record {
    read = λ detached text o h. jwe_stays detached text (λ e. cc (h, e)) ∙ h;
    decrypts = λ keys o plaintext h. decrypted_stays keys o (λ e. cc (h, e)) ∙ h;
  }
