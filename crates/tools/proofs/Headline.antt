-- What the answer of jose-verify-all says of the keys follows from the answer of `jws ver` and from its test of the signers.
use Rattle.std.proofs.Common.{◌≡◌, ◌≢◌, ℕ, ◌+◌, ◌≤◌, Bool, true, false, cond, ◌&&◌, ◌||◌, if◌then◌else◌, List, [], ◌∷◌, ◌++◌, length, is_some, Option, Some, None, Result, Ok, refl, sym, ap, ◌∙◌, subst, arith}
use Rattle.std.proofs.lemmas.Bool.{and_parts, and_from, or_left, or_right, eqb-true}
use Rattle.std.proofs.lemmas.Slice.Eq.{bytes_eq-Decides}
use Rattle.std.proofs.lemmas.List.Sums.{count_by-le-length, sum_by-cons}
use Rattle.std.specs.List.{count_by, list_any}
use Rattle.std.specs.Prelude.{nat_eq}
use Rattle.std.specs.Str.{bytes_eq}
use Rattle.octets.specs.declared.refusal.Refusal.{Refusal}
use Rattle.octets.specs.declared.refusal.Refusal.TheVariants.{Key, Unsupported, KeyDoesNotFit, NotOpened}
use Rattle.octets.specs.Outcomes.{◌>>=◌, needs}
use Rattle.octets.specs.Plan.{OutputTexts}
use Rattle.octets.proofs.Lemmas.{steps, passed, same_answer}
use Rattle.prf.specs.HashFunction.{HashFunction}
use Rattle.prf.specs.Hmac.{key_block}
use Rattle.keys.specs.declared.algorithm.SignatureAlg.{SignatureAlg}
use Rattle.keys.specs.declared.algorithm.SignatureAlg.TheVariants.{Hs256, Hs384, Hs512}
use Rattle.keys.specs.Algorithms.{signature_alg_of, signature_hash}
use Rattle.keys.specs.Keys.{OctetKey}
use Rattle.keys.specs.KeySets.{key_set}
use Rattle.keys.specs.Limits.{limits}
use Rattle.objects.specs.Jws.{Signature, SignedObject, jws_of}
use Rattle.objects.specs.Texts.{handed_in}
use Rattle.tokens.specs.Jws.{ver_least_answer}
use Rattle.tokens.specs.Signers.{are_distinct, are_signers, key_blocks, sign_apart}
use Rattle.tokens.specs.Verifying.{FewerAreAccepted, LeastHaveSigned, may_verify, verifies, verifies_by, candidate_alg, are_verified, has_signed, have_signed, verified_by_least, verified_payload, verifying_by, verifying_by_least}
use Rattle.jose.specs.Invocations.{Settings}
use Rattle.jose.specs.Meanings.{is_content_given, is_content_wanted}
use Rattle.jose.specs.Ports.{InputTexts, as_content}
use Rattle.tools.specs.declared.words.Signers.{Signers}
use Rattle.tools.specs.Headline.{EachKeyVerifies, FewerAreEnough, SoManyKeysVerify, OtherNumberIsRefused, AlikeKeysAreRefused, KeyTwiceIsRefused, each_of}
use Rattle.tools.specs.VerifyAll.{verify_all_answer}

-- ---- tests of lists

-- If one test implies another, an element that passes the first passes the second.
any_weaker : {X : Type 0} (p q : X → Bool) → ((x : X) → p x ≡ true → q x ≡ true) → (xs : List X) → list_any p xs ≡ true → list_any q xs ≡ true
any_weaker p q more [] h = cc h
any_weaker p q more (x ∷ xs) h = by_test (p x) (q x) _ _ (more x) (any_weaker p q more xs) h
  where
    by_test : (a b c d : Bool) → (a ≡ true → b ≡ true) → (c ≡ true → d ≡ true) → (a || c) ≡ true → (b || d) ≡ true
    by_test true b c d here later h = or_left b d (here refl)
    by_test false b c d here later h = or_right b d (later h)

-- If as many elements pass as there are, each of them passes.
each_counted : {X : Type 0} (p : X → Bool) (x : X) (before after : List X) → length (before ++ x ∷ after) ≤ count_by p (before ++ x ∷ after) → p x ≡ true
each_counted p x [] after h =
    by_test (p x) refl
  where
    by_test : (test : Bool) → p x ≡ test → p x ≡ true
    by_test true is = is
    by_test false is =
        let whole = sum_by-cons (λ y. cond (p y) 1 0) x after ∙ ap (λ t. cond t 1 0 + count_by p after) is in
        let most = count_by-le-length p after in
        absurd (omega arith)
each_counted p x (w ∷ before) after h =
    let whole = sum_by-cons (λ y. cond (p y) 1 0) w (before ++ x ∷ after) in
    let one = at_most_one (p w) in
    each_counted p x before after (omega arith)
  where
    at_most_one : (test : Bool) → cond test 1 0 ≤ 1
    at_most_one true = omega arith
    at_most_one false = omega arith

and_false : (a b : Bool) → b ≡ false → (a && b) ≡ false
and_false true b h = h
and_false false b h = refl

-- ---- each key alone verifies

-- A key that verifies a signature may verify it.
verifies_may : (payload : List ℕ) (key : OctetKey) (s : Signature) → verifies payload s key ≡ true → list_any (may_verify s) (key ∷ []) ≡ true
verifies_may payload key s h = or_left (may_verify s key) false (by_alg (candidate_alg s key) h)
  where
    by_alg : (alg : Option SignatureAlg) → verifies_by alg payload s key ≡ true → is_some alg ≡ true
    by_alg None h = cc h
    by_alg (Some alg) h = refl

-- An object that a key signed verifies with this key alone.
alone : (all wanted : Bool) (key : OctetKey) (o : SignedObject) → list_any (λ s. is_some (signature_alg_of s.alg)) o.signatures ≡ true
    → has_signed o key ≡ true → verifying_by all wanted (key ∷ []) o ≡ Ok (if wanted then o.payload else [])
unfolding verifying_by verified_payload
alone all wanted key o supported signed =
    let fits : list_any (λ s. list_any (may_verify s) (key ∷ [])) o.signatures ≡ true =
    any_weaker (λ s. verifies o.payload s key) (λ s. list_any (may_verify s) (key ∷ [])) (verifies_may o.payload key) o.signatures signed in
    rw (supported, fits, by_all all) refl
  where
    by_all : (all : Bool) → are_verified all (key ∷ []) o ≡ true
    by_all true = and_from (has_signed o key) true signed refl
    by_all false = any_weaker (λ s. verifies o.payload s key) (λ s. list_any (verifies o.payload s) (key ∷ []))
        (λ s h. or_left (verifies o.payload s key) false h) o.signatures signed

-- what is known of an object that so many of the keys signed
record Accepted (least : ℕ) (wanted : Bool) (set : List OctetKey) (o : SignedObject) (written : List ℕ) : Type 0 where
  payload : List ℕ
  verified : verified_by_least least set o ≡ Ok payload
  supported : list_any (λ s. is_some (signature_alg_of s.alg)) o.signatures ≡ true
  holds : (if wanted then o.payload else []) ≡ written
  writes : (if wanted then payload else []) ≡ written

accepted : (least : ℕ) (wanted : Bool) (set : List OctetKey) (o : SignedObject) (written : List ℕ)
    → verifying_by_least least wanted set o ≡ Ok written → Accepted least wanted set o written
unfolding verifying_by_least verified_by_least
accepted least wanted set o written h =
    let supports : Bool = list_any (λ s. is_some (signature_alg_of s.alg)) o.signatures in
    let may : Bool = list_any (λ s. list_any (may_verify s) set) o.signatures in
    let verified : Unit {0} → Result (List ℕ) Refusal = λ _. needs (have_signed least set o) NotOpened >>= λ _. Ok o.payload in
    let found = steps (verified_by_least least set o) (λ payload. Ok (if wanted then payload else [])) written h in
    let a = steps (needs supports Unsupported) (λ _. needs may KeyDoesNotFit >>= verified) found.0 found.1 in
    let b = steps (needs may KeyDoesNotFit) verified found.0 a.2 in
    let c = steps (needs (have_signed least set o) NotOpened) (λ _. Ok o.payload) found.0 b.2 in
    record {
      payload = found.0;
      verified = found.1;
      supported = passed supports Unsupported a.0 a.1;
      holds = ap (λ payload. if wanted then payload else []) (same_answer o.payload found.0 c.2) ∙ same_answer (if wanted then found.0 else []) written found.2;
      writes = same_answer (if wanted then found.0 else []) written found.2;
    }

-- Signers are as many as their number.
count_is : (number : ℕ) (set : List OctetKey) → are_signers number set ≡ true → length set ≡ number
unfolding are_signers
count_is number set h = eqb-true (length set) number (and_parts (nat_eq (length set) number) (sign_apart set) h).0

-- the parts of an answer that accepts an object
record Answered (signers : Signers) (settings : Settings) (inputs : InputTexts) (texts : OutputTexts) : Type 0 where
  set : List OctetKey
  object : SignedObject
  written : List ℕ
  keys_are : key_set limits inputs.keys true ≡ Ok set
  own : are_signers signers.number set ≡ true
  object_is : jws_of limits (handed_in (is_content_given settings) inputs.content) inputs.text ≡ Ok object
  by : Accepted signers.least (is_content_wanted settings) set object written
  writes : as_content written ≡ texts

answered : (signers : Signers) (settings : Settings) (inputs : InputTexts) (texts : OutputTexts) → verify_all_answer signers settings inputs ≡ Ok texts
    → Answered signers settings inputs texts
answered signers settings inputs texts h =
    let wanted : Bool = is_content_wanted settings in
    let detached : Option (List ℕ) = handed_in (is_content_given settings) inputs.content in
    let write : List ℕ → Result OutputTexts Refusal = λ octets. Ok (as_content octets) in
    let x = steps (ver_least_answer limits signers.least signers.number wanted inputs.keys detached inputs.text) write texts h in
    let object : List OctetKey → Result (List ℕ) Refusal = λ set. jws_of limits detached inputs.text >>= verifying_by_least signers.least wanted set in
    let a = steps (key_set limits inputs.keys true) (λ set. needs (are_signers signers.number set) Key >>= λ _. object set) x.0 x.1 in
    let b = steps (needs (are_signers signers.number a.0) Key) (λ _. object a.0) x.0 a.2 in
    let c = steps (jws_of limits detached inputs.text) (verifying_by_least signers.least wanted a.0) x.0 b.2 in
    record {
      set = a.0;
      object = c.0;
      written = x.0;
      keys_are = a.1;
      own = passed (are_signers signers.number a.0) Key b.0 b.1;
      object_is = c.1;
      by = accepted signers.least wanted a.0 c.0 x.0 c.2;
      writes = same_answer (as_content x.0) texts x.2;
    }

pub so_many_keys_verify : LeastHaveSigned → SoManyKeysVerify
so_many_keys_verify law signers settings inputs texts h =
    let it = answered signers settings inputs texts h in
    let wanted : Bool = is_content_wanted settings in
    let detached : Option (List ℕ) = handed_in (is_content_given settings) inputs.content in
    let write : List ℕ → Result OutputTexts Refusal = λ octets. Ok (as_content octets) in
    let counted = law signers.least it.set it.object it.by.payload it.by.verified in (
      it.set,
      (
        has_signed it.object,
        (
          it.keys_are,
          count_is signers.number it.set it.own,
          counted.0,
          counted.1,
          λ before after key key_text all same signed held.
              ap (λ keys. (keys >>= λ set. jws_of limits detached inputs.text >>= verifying_by all wanted set) >>= write) held
              ∙ ap (λ o. (o >>= verifying_by all wanted (key ∷ [])) >>= write) it.object_is
              ∙ ap (λ r. r >>= write) (alone all wanted key it.object it.by.supported signed ∙ ap Ok it.by.holds)
              ∙ ap Ok it.writes,
        ),
      ),
    )

pub each_key_verifies : LeastHaveSigned → EachKeyVerifies
each_key_verifies law number settings inputs texts h =
    let it = so_many_keys_verify law (each_of number) settings inputs texts h in
    let set = it.0 in
    let signed = it.1.0 in
    let facts = it.1.1 in (
      set,
      (
        facts.0,
        (
          facts.1,
          λ before after key key_text all same held.
              let many : length set ≤ count_by signed set = subst (λ n. n ≤ count_by signed set) (sym facts.1) facts.2 in
              facts.4 before after key key_text all same
              (each_counted signed key before after (subst (λ l. length l ≤ count_by signed l) same many)) held,
        ),
      ),
    )

pub fewer_are_enough : FewerAreAccepted → FewerAreEnough
unfolding verifying_by_least
fewer_are_enough law fewer more number settings inputs texts less h =
    let it = answered (record { least = more; number = number }) settings inputs texts h in
    let wanted : Bool = is_content_wanted settings in
    let detached : Option (List ℕ) = handed_in (is_content_given settings) inputs.content in
    let write : List ℕ → Result OutputTexts Refusal = λ octets. Ok (as_content octets) in
    let object : List OctetKey → Result (List ℕ) Refusal = λ set. jws_of limits detached inputs.text >>= verifying_by_least fewer wanted set in
    ap (λ keys. (keys >>= λ set. needs (are_signers number set) Key >>= λ _. object set) >>= write) it.keys_are
    ∙ ap (λ own. (needs own Key >>= λ _. object it.set) >>= write) it.own
    ∙ ap (λ o. (o >>= verifying_by_least fewer wanted it.set) >>= write) it.object_is
    ∙ ap (λ r. (r >>= λ payload. Ok (if wanted then payload else [])) >>= write) (law fewer more it.set it.object it.by.payload less it.by.verified)
    ∙ ap write it.by.writes
    ∙ ap Ok it.writes

-- ---- keys that are no signers

not_so_many : (number : ℕ) (set : List OctetKey) → length set ≢ number → are_signers number set ≡ false
not_so_many number set other = by_test (are_signers number set) refl
  where
    by_test : (test : Bool) → are_signers number set ≡ test → test ≡ false
    by_test false is = refl
    by_test true is = absurd (other (count_is number set is))

pub other_number_is_refused : OtherNumberIsRefused
other_number_is_refused signers settings inputs set read other = rw (read, not_so_many signers.number set other) refl

same_text : (xs ys : List ℕ) → xs ≡ ys → bytes_eq xs ys ≡ true
same_text xs ys same = (bytes_eq-Decides xs ys).1 same

-- The block of a key is among those of others if it is that of one of them.
among : (f : HashFunction) (block : List ℕ) (between after : List OctetKey) (other : OctetKey) → block ≡ key_block f other.octets
    → list_any (bytes_eq block) (key_blocks f (between ++ other ∷ after)) ≡ true
among f block [] after other same = or_left (bytes_eq block (key_block f other.octets)) _ (same_text _ _ same)
among f block (key ∷ between) after other same = or_right (bytes_eq block (key_block f key.octets)) _ (among f block between after other same)

-- Blocks are not distinct if two of them are the same.
not_distinct : (f : HashFunction) (before between after : List OctetKey) (one other : OctetKey) → key_block f one.octets ≡ key_block f other.octets
    → are_distinct (key_blocks f (before ++ one ∷ (between ++ other ∷ after))) ≡ false
not_distinct f [] between after one other same = rw (among f (key_block f one.octets) between after other same) refl
not_distinct f (key ∷ before) between after one other same = and_false _ _ (not_distinct f before between after one other same)

-- Keys do not sign apart if their blocks by the hash of one algorithm are not distinct.
not_apart : (set : List OctetKey) (alg : SignatureAlg) → are_distinct (key_blocks (signature_hash alg) set) ≡ false → sign_apart set ≡ false
unfolding sign_apart
not_apart set Hs256 h = rw h refl
not_apart set Hs384 h = and_false (apart Hs256) (apart Hs384 && (apart Hs512 && true)) (rw h refl)
  where
    apart : SignatureAlg → Bool
    apart alg = are_distinct (key_blocks (signature_hash alg) set)
not_apart set Hs512 h = and_false (apart Hs256) (apart Hs384 && (apart Hs512 && true)) (and_false (apart Hs384) (apart Hs512 && true) (rw h refl))
  where
    apart : SignatureAlg → Bool
    apart alg = are_distinct (key_blocks (signature_hash alg) set)

not_signers : (number : ℕ) (set : List OctetKey) → sign_apart set ≡ false → are_signers number set ≡ false
unfolding are_signers
not_signers number set h = and_false _ _ h

pub alike_keys_are_refused : AlikeKeysAreRefused
alike_keys_are_refused signers settings inputs before between after one other alg read same =
    let set : List OctetKey = before ++ one ∷ (between ++ other ∷ after) in
    let refused : are_signers signers.number set ≡ false
    = not_signers signers.number set (not_apart set alg (not_distinct (signature_hash alg) before between after one other same)) in
    rw (read, refused) refl

pub key_twice_is_refused : KeyTwiceIsRefused
key_twice_is_refused signers settings inputs before between after one other read same =
    alike_keys_are_refused signers settings inputs before between after one other Hs256 read (ap (key_block (signature_hash Hs256)) same)
