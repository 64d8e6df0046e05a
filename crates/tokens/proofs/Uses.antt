-- Keys do only what they may. A key of a pair is a candidate by the pair's algorithms, and each algorithm of a name is one of those that are
-- asked for when a key is judged.
use Rattle.std.proofs.Common.{◌≡◌, ◌⊎◌, inl, inr, ◌||◌, ◌++◌, cond, List, [], ◌∷◌, map, Bool, true, false, is_some, Option, Some, None, Ok, refl}
use Rattle.std.proofs.lemmas.Bool.{or_cases, or_left, or_right}
use Rattle.std.specs.List.{find, filter, list_any}
use Rattle.octets.specs.declared.refusal.Refusal.TheVariants.{Unsupported, KeyDoesNotFit, Limit, NotOpened}
use Rattle.octets.specs.Outcomes.{◌>>=◌, needs}
use Rattle.octets.proofs.Lemmas.{steps, passed}
use Rattle.ciphers.specs.Algorithms.{management_algs, encryption_algs, management_name, encryption_name, management_alg_among, encryption_alg_of}
use Rattle.ciphers.specs.declared.content_alg.ContentAlg.{ContentAlg}
use Rattle.ciphers.specs.declared.key_alg.KeyAlg.{KeyAlg}
use Rattle.std.specs.Option.{ok_or}
use Rattle.std.specs.Str.{bytes_eq}
use Rattle.keys.specs.declared.algorithm.SignatureAlg.{SignatureAlg}
use Rattle.keys.specs.Algorithms.{signature_algs, signature_name, signature_alg_of}
use Rattle.keys.specs.Keys.{OctetKey}
use Rattle.keys.specs.Limits.{limits}
use Rattle.objects.specs.Jwe.{Recipient}
use Rattle.objects.specs.Jws.{Signature}
use Rattle.tokens.specs.Algorithms.{Algorithms}
use Rattle.tokens.specs.Decrypting as decrypting
use Rattle.tokens.specs.Decrypting.{Pair, algorithms_of, algorithms_by, pairs_by, pairs_of, all_pairs, has_pairs, are_within, pairs_to_try, first_opened, sealed_content, decrypted}
use Rattle.tokens.specs.Judging.{may_verify, may_decrypt, VerifiersMayVerify, DecryptersMayDecrypt}
use Rattle.tokens.specs.Verifying as verifying
use Rattle.tokens.specs.Verifying.{is_candidate, candidate_by, are_verified, verified_payload}

-- ---- elements that pass a test

module _ {A : Type 0} (p q : A → Bool) where
  -- If each element that passes a test passes another one, some element passes that one.
  some_too : ((x : A) → p x ≡ true → q x ≡ true) → (xs : List A) → list_any p xs ≡ true → list_any q xs ≡ true
  some_too too [] h = h
  some_too too (x ∷ xs) h = elim (or_cases (p x) (list_any p xs) h) [ inl here ↦ or_left (q x) (list_any q xs) (too x here) | inr later ↦ or_right (q x) (list_any q xs) (some_too too xs later) ]

  -- An element that is found is one of the list.
  found_passes : (xs : List A) (x : A) → find p xs ≡ Some x → q x ≡ true → list_any q xs ≡ true
  found_passes [] x h passes = cc h
  found_passes (y ∷ ys) x h passes = by_test (p y) (λ later. found_passes ys x later passes) h
    where
      by_test : (b : Bool) → (find p ys ≡ Some x → list_any q ys ≡ true) → cond b (Some y) (find p ys) ≡ Some x → list_any q (y ∷ ys) ≡ true
      by_test true later h = or_left (q y) (list_any q ys) (cc (h, passes))
      by_test false later h = or_right (q y) (list_any q ys) (later h)

-- What follows from any element that passes a test follows if some element passes it.
follows : {A : Type 0} (p : A → Bool) (b : Bool) → ((x : A) → p x ≡ true → b ≡ true) → (xs : List A) → list_any p xs ≡ true → b ≡ true
follows p b so [] h = cc h
follows p b so (x ∷ xs) h = elim (or_cases (p x) (list_any p xs) h) [ inl here ↦ so x here | inr later ↦ follows p b so xs later ]

-- ---- verifying

is_the_candidate : (b : Bool) (alg : SignatureAlg) → is_some (cond b (Some alg) None) ≡ true → b ≡ true
is_the_candidate true alg h = refl
is_the_candidate false alg h = cc h

-- A key that may verify a signature may verify.
verifier_may : (s : Signature) (key : OctetKey) → verifying.may_verify s key ≡ true → may_verify key ≡ true
unfolding may_verify signature_alg_of
verifier_may s key h = by_alg (signature_alg_of s.alg) refl h
  where
    by_alg : (found : Option SignatureAlg) → signature_alg_of s.alg ≡ found → is_some (candidate_by found key) ≡ true
        → list_any (λ alg. is_candidate alg key) signature_algs ≡ true
    by_alg None is h = cc h
    by_alg (Some alg) is h =
        found_passes (λ alg. bytes_eq s.alg (signature_name alg)) (λ alg. is_candidate alg key) signature_algs alg is (is_the_candidate (is_candidate alg key) alg h)

pub verifiers_may_verify : VerifiersMayVerify
unfolding verified_payload
verifiers_may_verify all keys o payload h =
    let supported = list_any (λ s. is_some (signature_alg_of s.alg)) o.signatures in
    let candidates = list_any (λ s. list_any (verifying.may_verify s) keys) o.signatures in
    let a = steps (needs supported Unsupported) (λ u. needs candidates KeyDoesNotFit >>= λ v. needs (are_verified all keys o) NotOpened >>= λ w. Ok o.payload) payload h in
    let b = steps (needs candidates KeyDoesNotFit) (λ v. needs (are_verified all keys o) NotOpened >>= λ w. Ok o.payload) payload a.2 in
    follows (λ s. list_any (verifying.may_verify s) keys) (list_any may_verify keys)
    (λ s some. some_too (verifying.may_verify s) may_verify (verifier_may s) keys some) o.signatures (passed candidates KeyDoesNotFit b.0 b.1)

-- ---- decrypting

-- Where a list of pairs is not empty, nor is the list of what they are made of.
some_are_left : {A : Type 0} (test : A → Bool) (made : A → Pair) (xs : List A) → has_pairs (map made (filter test xs)) ≡ true → list_any test xs ≡ true
some_are_left test made [] h = h
some_are_left test made (x ∷ xs) h = by_test (test x) (some_are_left test made xs) h
  where
    by_test : (b : Bool) → (has_pairs (map made (filter test xs)) ≡ true → list_any test xs ≡ true)
        → has_pairs (map made (cond b (x ∷ filter test xs) (filter test xs))) ≡ true → (b || list_any test xs) ≡ true
    by_test true later h = refl
    by_test false later h = later h

either_has : (xs ys : List Pair) → has_pairs (xs ++ ys) ≡ true → (has_pairs xs ≡ true) ⊎ (has_pairs ys ≡ true)
either_has [] ys h = inr h
either_has (x ∷ xs) ys h = inl refl

-- If there is a pair of a recipient, one of the keys may decrypt.
decrypter_may : (keys : List OctetKey) (r : Recipient) → has_pairs (pairs_of management_algs keys r) ≡ true → list_any may_decrypt keys ≡ true
unfolding may_decrypt algorithms_of management_alg_among encryption_alg_of
decrypter_may keys r h = by_names (management_alg_among management_algs r.alg) (encryption_alg_of r.enc) refl refl h
  where
    by_names : (m : Option KeyAlg) (e : Option ContentAlg) → management_alg_among management_algs r.alg ≡ m → encryption_alg_of r.enc ≡ e
        → has_pairs (pairs_by keys r (algorithms_by m e)) ≡ true → list_any may_decrypt keys ≡ true
    by_names None e m_is e_is h = cc h
    by_names (Some alg) None m_is e_is h = cc h
    by_names (Some alg) (Some enc) m_is e_is h =
        let a : Algorithms = record { management = alg; encryption = enc } in
        some_too (decrypting.is_candidate a) may_decrypt
        (λ key candidate. found_passes (λ m. bytes_eq r.alg (management_name m))
        (λ m. list_any (λ e. decrypting.is_candidate (record { management = m; encryption = e }) key) encryption_algs) management_algs alg m_is
        (found_passes (λ e. bytes_eq r.enc (encryption_name e)) (λ e. decrypting.is_candidate (record { management = alg; encryption = e }) key) encryption_algs enc e_is candidate))
        keys (some_are_left (decrypting.is_candidate a) (λ key. record { recipient = r; algorithms = a; key = key }) keys h)

decrypters_may : (keys : List OctetKey) (recipients : List Recipient) → has_pairs (all_pairs management_algs keys recipients) ≡ true
    → list_any may_decrypt keys ≡ true
decrypters_may keys [] h = cc h
decrypters_may keys (r ∷ recipients) h = elim (either_has (pairs_of management_algs keys r) (all_pairs management_algs keys recipients) h) [ inl here ↦ decrypter_may keys r here | inr later ↦ decrypters_may keys recipients later ]

pub decrypters_may_decrypt : DecryptersMayDecrypt
unfolding decrypted pairs_to_try
decrypters_may_decrypt keys o plaintext h =
    let pairs = all_pairs limits.management keys o.recipients in
    let a = steps (pairs_to_try limits keys o.recipients) (λ pairs. ok_or (first_opened (sealed_content o) pairs) NotOpened) plaintext h in
    let b = steps (needs (list_any (λ r. is_some (algorithms_of limits.management r)) o.recipients) Unsupported)
    (λ u. needs (has_pairs pairs) KeyDoesNotFit >>= λ v. needs (are_within limits pairs) Limit >>= λ w. Ok pairs) a.0 a.1 in
    let c = steps (needs (has_pairs pairs) KeyDoesNotFit) (λ v. needs (are_within limits pairs) Limit >>= λ w. Ok pairs) a.0 b.2 in
    decrypters_may keys o.recipients (passed (has_pairs pairs) KeyDoesNotFit c.0 c.1)
