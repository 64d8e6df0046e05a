-- The pairs of a key and the recipients that encryption makes. They need no more iterations than the limits allow, and the first of them
-- that opens returns the plaintext.
use Rattle.std.proofs.Common.{◌≡◌, ℕ, suc, ◌+◌, ◌*◌, ◌≤◌, nat_le, Bool, true, false, if◌then◌else◌, List, [], ◌∷◌, ◌++◌, length, map, take, drop, Option, Some, None, is_some, Ok, refl, ap, arith}
use Rattle.std.proofs.lemmas.Bool.{and_from, or_left, le-leb}
use Rattle.std.specs.List.{AllByRecursion, list_all, list_any}
use Rattle.std.specs.Option.{option_or}
use Rattle.ciphers.specs.Delivery.{key_tag_of}
use Rattle.ciphers.specs.declared.key_alg.KeyAlg.{KeyAlg}
use Rattle.ciphers.specs.declared.key_alg.KeyManagementMode.{KeyManagementMode}
use Rattle.ciphers.specs.declared.key_alg.KeyManagementMode.TheVariants as mode
use Rattle.ciphers.specs.Algorithms.{mode_of, is_password, is_password_based, management_algs}
use Rattle.keys.specs.Keys.{OctetKey}
use Rattle.keys.specs.Limits.{Limits}
use Rattle.objects.specs.Jwe.{EncryptedObject}
use Rattle.tokens.specs.Algorithms.{Algorithms}
use Rattle.tokens.specs.Choosing.{RecipientKey, password_count, EncryptionPlan}
use Rattle.tokens.specs.Decrypting.{algorithms_of, is_candidate, Pair, pairs_of, all_pairs, has_pairs, iterations_by, iterations_of, all_iterations, pairs_to_try, SealedContent, sealed_content, opened_by, first_opened, decrypted}
use Rattle.tokens.specs.Delivering.{delivered_in, drawn_for, parameters_with, management_with}
use Rattle.tokens.proofs.AlgorithmCases.{management_named, encryption_named}
use Rattle.tokens.proofs.Encrypting.Deliver.{with_drawn}
use Rattle.tokens.proofs.Encrypting.Recipients.{made_by}

-- ---- the pairs

-- the algorithms with which a recipient receives the content encryption key
abbrev pub algorithms_by : EncryptionPlan → RecipientKey → Algorithms
algorithms_by e r = record { management = r.management; encryption = e.encryption }

-- the pair of a recipient that was made and a key
abbrev pub pair_by : EncryptionPlan → List ℕ → OctetKey → RecipientKey × List ℕ → Pair
pair_by e cek key x = record { recipient = made_by e cek x; algorithms = algorithms_by e x.0; key = key }

-- The recipient names these algorithms.
algorithms_are : (e : EncryptionPlan) (cek : List ℕ) (x : RecipientKey × List ℕ) → algorithms_of management_algs (made_by e cek x) ≡ Some (algorithms_by e x.0)
unfolding algorithms_of
algorithms_are e cek x = rw (management_named, encryption_named) refl

-- The key and the recipient are a pair exactly if the key is a candidate.
pairs_are : (e : EncryptionPlan) (cek : List ℕ) (key : OctetKey) (x : RecipientKey × List ℕ)
    → pairs_of management_algs (key ∷ []) (made_by e cek x) ≡ (if is_candidate (algorithms_by e x.0) key then pair_by e cek key x ∷ [] else [])
pairs_are e cek key x = rw algorithms_are (by_test (is_candidate (algorithms_by e x.0) key))
  where
    by_test : (candidate : Bool) → map (λ k. record { recipient = made_by e cek x; algorithms = algorithms_by e x.0; key = k })
        (if candidate then key ∷ [] else [])
        ≡ (if candidate then pair_by e cek key x ∷ [] else [])
    by_test true = refl
    by_test false = refl

-- ---- their iterations

-- No pair needs more than `most` iterations, and all pairs together need at most n.
pub record TakeAtMost (most n : ℕ) (pairs : List Pair) : Type 0 where
  pub each_few : list_all (λ pair. nat_le (iterations_of pair) most) pairs ≡ true
  pub all_few : all_iterations pairs ≤ n

-- Only a password needs iterations.
iterations_in : (m : KeyManagementMode) (drawn : List ℕ) (p2c : ℕ) (tag : List ℕ)
    → iterations_by (delivered_in m drawn p2c tag) ≡ (if is_password m then p2c else 0)
iterations_in mode.Direct drawn p2c tag = refl
iterations_in mode.KeyWrap drawn p2c tag = refl
iterations_in mode.Password drawn p2c tag = refl
iterations_in mode.GcmKeyWrap drawn p2c tag = refl

iterations_are : (alg : KeyAlg) (drawn : List ℕ) (p2c : ℕ) (tag : List ℕ)
    → iterations_by (management_with alg drawn p2c tag) ≡ (if is_password_based alg then p2c else 0)
iterations_are alg drawn p2c tag = iterations_in (mode_of alg) drawn p2c tag

-- With one more recipient, the iterations of its pair are added.
one_more : (most : ℕ) (password : Bool) (n p2c : ℕ) → (password ≡ true → p2c ≤ most)
    → (let i : ℕ = if password then p2c else 0 in (i ≤ most) × (i + n * p2c ≤ (if password then suc n else n) * p2c))
one_more most true n p2c few = (few refl, omega arith)
one_more most false n p2c few = (omega arith, omega arith)

-- All recipients together need at most `p2c` iterations for each password.
pub take_at_most : (most : ℕ) (e : EncryptionPlan) (cek : List ℕ) (key : OctetKey) (recipient_keys : List RecipientKey) (drawn : List ℕ)
    → AllByRecursion (λ r. is_password_based r.management ≡ true → e.p2c ≤ most) recipient_keys
    → TakeAtMost most (password_count recipient_keys * e.p2c) (all_pairs management_algs (key ∷ []) (map (made_by e cek) (with_drawn recipient_keys drawn)))
take_at_most most e cek key [] drawn few = record { each_few = refl; all_few = omega arith }
take_at_most most e cek key (r ∷ rest) drawn few =
    rw (pairs_are e cek key (r, take (drawn_for r) drawn))
    (by_test (is_candidate (algorithms_by e r) key) (take_at_most most e cek key rest (drop (drawn_for r) drawn) few.1))
  where
    by_test : (candidate : Bool) → TakeAtMost most (password_count rest * e.p2c)
        (all_pairs management_algs (key ∷ []) (map (made_by e cek) (with_drawn rest (drop (drawn_for r) drawn))))
        → TakeAtMost most (password_count (r ∷ rest) * e.p2c)
        ((if candidate then pair_by e cek key (r, take (drawn_for r) drawn) ∷ [] else [])
        ++ all_pairs management_algs (key ∷ []) (map (made_by e cek) (with_drawn rest (drop (drawn_for r) drawn))))
    by_test true all =
        let here = one_more most (is_password_based r.management) (password_count rest) e.p2c few.0 in
        let octets : List ℕ = take (drawn_for r) drawn in
        let takes = iterations_are r.management octets e.p2c (key_tag_of r.management r.key.octets (parameters_with octets e.p2c) cek) in
        record { each_few = and_from _ _ (le-leb _ most (rw takes here.0)) all.each_few; all_few = omega (arith, takes, here.1, all.all_few) }
    by_test false all =
        let here = one_more most (is_password_based r.management) (password_count rest) e.p2c few.0 in
        record { each_few = all.each_few; all_few = omega (arith, here.1, all.all_few) }

-- ---- what the pairs open

-- If something holds of all elements of two joined lists, it holds of all elements of each.
all_of_both : {X : Type 0} (P : X → Type 0) (xs ys : List X) → AllByRecursion P (xs ++ ys) → AllByRecursion P xs × AllByRecursion P ys
all_of_both P [] ys all = (tt, all)
all_of_both P (x ∷ xs) ys all = let both = all_of_both P xs ys all.1 in ((all.0, both.0), both.1)

-- the pair opens no other plaintext
abbrev OpensOnly : SealedContent → List ℕ → Pair → Type 0
OpensOnly s plaintext pair = (other : List ℕ) → opened_by s pair ≡ Some other → other ≡ plaintext

-- If some pairs open no other plaintext, and later pairs open this one, all pairs together open it.
opened_later : (s : SealedContent) (plaintext : List ℕ) (pairs later : List Pair) → AllByRecursion (OpensOnly s plaintext) pairs
    → first_opened s later ≡ Some plaintext
    → first_opened s (pairs ++ later) ≡ Some plaintext
opened_later s plaintext [] later only h = h
opened_later s plaintext (pair ∷ pairs) later only h = by_opened (opened_by s pair) refl (opened_later s plaintext pairs later only.1 h)
  where
    by_opened : (opened : Option (List ℕ)) → opened_by s pair ≡ opened → first_opened s (pairs ++ later) ≡ Some plaintext
        → option_or opened (first_opened s (pairs ++ later)) ≡ Some plaintext
    by_opened None is rest = rest
    by_opened (Some other) is rest = ap Some (only.0 other is)

-- a recipient with this key is a candidate and opens the plaintext
abbrev pub Opens : EncryptionPlan → List ℕ → OctetKey → SealedContent → List ℕ → RecipientKey × List ℕ → Type 0
Opens e cek key s plaintext x = x.0.key ≡ key → (is_candidate (algorithms_by e x.0) key ≡ true) × (opened_by s (pair_by e cek key x) ≡ Some plaintext)

-- The first pair that opens returns the plaintext, if the key opens no other plaintext at the recipients of the keys before it.
pub first_opens : (e : EncryptionPlan) (cek : List ℕ) (key : OctetKey) (s : SealedContent) (plaintext : List ℕ) (before after : List OctetKey)
    (xs : List (RecipientKey × List ℕ))
    → map (λ x. x.0.key) xs ≡ before ++ key ∷ after → AllByRecursion (Opens e cek key s plaintext) xs
    → AllByRecursion (OpensOnly s plaintext) (all_pairs management_algs (key ∷ []) (take (length before) (map (made_by e cek) xs)))
    → first_opened s (all_pairs management_algs (key ∷ []) (map (made_by e cek) xs)) ≡ Some plaintext
first_opens e cek key s plaintext [] after [] keys all only = cc keys
first_opens e cek key s plaintext [] after (x ∷ rest) keys all only =
    let same : x.0.key ≡ key = cc keys in
    let own = all.0 same in
    rw (pairs_are e cek key x, own.0, own.1) refl
first_opens e cek key s plaintext (k ∷ before) after [] keys all only = cc keys
first_opens e cek key s plaintext (k ∷ before) after (x ∷ rest) keys all only =
    let later : map (λ x. x.0.key) rest ≡ before ++ key ∷ after = cc keys in
    let both = all_of_both (OpensOnly s plaintext) (pairs_of management_algs (key ∷ []) (made_by e cek x))
    (all_pairs management_algs (key ∷ []) (take (length before) (map (made_by e cek) rest))) only in
    opened_later s plaintext (pairs_of management_algs (key ∷ []) (made_by e cek x)) (all_pairs management_algs (key ∷ []) (map (made_by e cek) rest)) both.0
    (first_opens e cek key s plaintext before after rest later all.1 both.1)

-- ---- what is decrypted

-- If there is a recipient, a recipient that was made is supported.
pub supported : (e : EncryptionPlan) (cek : List ℕ) (xs : List (RecipientKey × List ℕ)) → 1 ≤ length xs
    → list_any (λ r. is_some (algorithms_of management_algs r)) (map (made_by e cek) xs) ≡ true
supported e cek [] some = absurd (omega arith)
supported e cek (x ∷ rest) some =
    or_left (is_some (algorithms_of management_algs (made_by e cek x))) (list_any (λ r. is_some (algorithms_of management_algs r)) (map (made_by e cek) rest))
    (ap is_some (algorithms_are e cek x))

-- If the pairs open a plaintext, there is a pair.
some_pairs : (s : SealedContent) (plaintext : List ℕ) (pairs : List Pair) → first_opened s pairs ≡ Some plaintext → has_pairs pairs ≡ true
some_pairs s plaintext [] h = cc h
some_pairs s plaintext (pair ∷ pairs) h = refl

-- If the pairs open the plaintext within the limits, the object is decrypted to it.
pub opened_is_decrypted : (limits : Limits) → limits.management ≡ management_algs → (key : OctetKey) (o : EncryptedObject) (plaintext : List ℕ)
    → list_any (λ r. is_some (algorithms_of management_algs r)) o.recipients ≡ true
    → TakeAtMost limits.greatest_p2c_read limits.p2c_sum (all_pairs management_algs (key ∷ []) o.recipients)
    → first_opened (sealed_content o) (all_pairs management_algs (key ∷ []) o.recipients) ≡ Some plaintext
    → decrypted limits (key ∷ []) o ≡ Ok plaintext
unfolding decrypted pairs_to_try
opened_is_decrypted limits known key o plaintext supported few opens =
    let pairs : List Pair = all_pairs management_algs (key ∷ []) o.recipients in
    let sum : nat_le (all_iterations pairs) limits.p2c_sum ≡ true = le-leb (all_iterations pairs) limits.p2c_sum few.all_few in
    rw (known, supported, some_pairs (sealed_content o) plaintext pairs opens, few.each_few, sum, opens) refl
