-- Keys that receive a content encryption key: facts about each of them that follow from a test of all, and sums over all of them.
use Rattle.std.proofs.Common.{◌≡◌, ℕ, zero, suc, ◌≤◌, Bool, true, false, not, nat_le, List, [], ◌∷◌, length, map, Some, None, Ok, refl, sym, ap, ◌∙◌, arith}
use Rattle.std.proofs.lemmas.Bool.{leb-true, le-leb, lt-leb, and_parts, and_from, or_left, or_right}
use Rattle.std.proofs.lemmas.List.{length-map}
use Rattle.std.proofs.lemmas.List.Folds.{list_all-map}
use Rattle.std.specs.List.{list_all, list_any, AllByRecursion}
use Rattle.std.specs.Option.{unwrap_or}
use Rattle.std.specs.Prelude.{◌&&◌, ◌||◌, ◌*◌, if◌then◌else◌}
use Rattle.octets.specs.declared.refusal.Refusal.{Refusal}
use Rattle.octets.specs.Outcomes.{needs}
use Rattle.ciphers.specs.Sealing.{cek_len}
use Rattle.keys.specs.declared.algorithm.Algorithm.TheVariants.{Encryption as EncryptionWith}
use Rattle.ciphers.specs.declared.content_alg.ContentAlg.{ContentAlg}
use Rattle.ciphers.specs.declared.key_alg.KeyAlg.TheVariants.{Dir}
use Rattle.ciphers.specs.Algorithms.{is_password_based}
use Rattle.keys.specs.Algorithms.{management_operations}
use Rattle.keys.specs.Keys.{allows, fits}
use Rattle.keys.specs.Limits.{limits}
use Rattle.keys.specs.Code.Views.{key_view}
use Rattle.tokens.specs.declared.encrypt.recipient_key.RecipientKey.{RecipientKey as Code}
use Rattle.tokens.specs.Choosing.{is_direct, direct_key_is_alone, may_encrypt, password_count, p2c_may_be_written}
use Rattle.tokens.specs.Encrypting.{direct_key}
use Rattle.tokens.specs.Code.Views.{recipient_key_view}
use Rattle.tokens.proofs.AlgorithmCases.{direct_key_fits}

-- If a check succeeds, its test holds.
pub held : (test : Bool) (refusal : Refusal) (done : Unit {0}) → Ok done ≡ needs test refusal → test ≡ true
held true refusal done on = refl
held false refusal done on = cc on

-- If one test implies another for each element, and all elements pass the first, all pass the other.
pub all_pass_other : {X : Type 0} (p q : X → Bool) (xs : List X) → ((x : X) → p x ≡ true → q x ≡ true) → list_all p xs ≡ true → list_all q xs ≡ true
all_pass_other p q [] implies all = refl
all_pass_other p q (x ∷ xs) implies all =
    let parts = and_parts (p x) (list_all p xs) all in
    and_from (q x) (list_all q xs) (implies x parts.0) (all_pass_other p q xs implies parts.1)

-- If each element passes a test, all of them pass it.
pub all_pass : {X : Type 0} (q : X → Bool) (xs : List X) → ((x : X) → q x ≡ true) → list_all q xs ≡ true
all_pass q [] each = refl
all_pass q (x ∷ xs) each = and_from (q x) (list_all q xs) (each x) (all_pass q xs each)

-- If no element passes a test, all elements pass its negation.
pub none_passes : {X : Type 0} (p : X → Bool) (xs : List X) → not (list_any p xs) ≡ true → list_all (λ x. not (p x)) xs ≡ true
none_passes p [] none = refl
none_passes p (x ∷ xs) none = by_first (p x) (list_any p xs) (list_all (λ y. not (p y)) xs) (none_passes p xs) none
  where
    by_first : (a b c : Bool) → (not b ≡ true → c ≡ true) → not (a || b) ≡ true → (not a && c) ≡ true
    by_first true b c rest none = cc none
    by_first false b c rest none = rest none

-- A test of the elements of a mapped list is a test of the elements of the list.
pub list_any-map : {X Y : Type 0} (p : X → Bool) (h : Y → X) (ys : List Y) → list_any p (map h ys) ≡ list_any (λ y. p (h y)) ys
list_any-map p h [] = refl
list_any-map p h (y ∷ ys) = ap (λ others. p (h y) || others) (list_any-map p h ys)

-- If all keys may encrypt, all of them fit.
pub all_fit : (enc : ContentAlg) (recipient_keys : List Code) → list_all (may_encrypt enc) (map recipient_key_view recipient_keys) ≡ true
    → list_all (λ r. fits (key_view r.key.now) (EncryptionWith r.management enc)) recipient_keys ≡ true
all_fit enc recipient_keys all =
    all_pass_other (λ r. may_encrypt enc (recipient_key_view r)) (λ r. fits (key_view r.key.now) (EncryptionWith r.management enc)) recipient_keys
    (λ r may. (and_parts (allows (key_view r.key.now) (management_operations r.management).0)
    (fits (key_view r.key.now) (EncryptionWith r.management enc)) may).1)
    (sym (list_all-map (may_encrypt enc) recipient_key_view recipient_keys) ∙ all)

-- If several keys are allowed together, none of them is used directly.
pub all_stand_together : (recipient_keys : List Code) → direct_key_is_alone (map recipient_key_view recipient_keys) ≡ true
    → list_all (λ r. not (is_direct r.management) || nat_le (length recipient_keys) 1) recipient_keys ≡ true
all_stand_together recipient_keys together =
    by_count (nat_le (length recipient_keys) 1) (rw (sym (ap (λ n. nat_le n 1) (length-map recipient_keys recipient_key_view))) together)
  where
    by_count : (few : Bool) → (few || not (list_any (λ r. is_direct r.management) (map recipient_key_view recipient_keys))) ≡ true
        → list_all (λ r. not (is_direct r.management) || few) recipient_keys ≡ true
    by_count true together = all_pass (λ r. not (is_direct r.management) || true) recipient_keys (λ r. or_right (not (is_direct r.management)) true refl)
    by_count false together =
        all_pass_other (λ r. not (is_direct r.management)) (λ r. not (is_direct r.management) || false) recipient_keys
        (λ r is. or_left (not (is_direct r.management)) false is)
        (sym (list_all-map (λ r. not (is_direct r.management)) recipient_key_view recipient_keys)
        ∙ none_passes (λ r. is_direct r.management) (map recipient_key_view recipient_keys) together)

-- If the number of iterations may be written, each password needs at least one.
pub all_counted : (p2c : ℕ) (recipient_keys : List Code) → p2c_may_be_written limits (password_count (map recipient_key_view recipient_keys)) p2c ≡ true
    → list_all (λ r. not (is_password_based r.management) || nat_le 1 p2c) recipient_keys ≡ true
all_counted p2c recipient_keys written = by_count (password_count (map recipient_key_view recipient_keys)) refl written
  where
    by_first : (password some : Bool) (n : ℕ) (others : Bool) → (n ≡ 0 → others ≡ true) → (if password then suc n else n) ≡ 0
        → ((not password || some) && others) ≡ true
    by_first true some n others rest none = absurd (omega (arith, none))
    by_first false some n others rest none = rest none

    none_counted : (list : List Code) → password_count (map recipient_key_view list) ≡ 0
        → list_all (λ r. not (is_password_based r.management) || nat_le 1 p2c) list ≡ true
    none_counted [] none = refl
    none_counted (r ∷ list) none =
        by_first (is_password_based r.management) (nat_le 1 p2c) (password_count (map recipient_key_view list))
        (list_all (λ q. not (is_password_based q.management) || nat_le 1 p2c) list) (none_counted list) none

    by_count : (n : ℕ) → password_count (map recipient_key_view recipient_keys) ≡ n → p2c_may_be_written limits n p2c ≡ true
        → list_all (λ r. not (is_password_based r.management) || nat_le 1 p2c) recipient_keys ≡ true
    by_count zero is written = none_counted recipient_keys is
    by_count (suc n) is written =
        let least = and_parts (nat_le limits.least_p2c p2c) (nat_le p2c limits.greatest_p2c && nat_le (suc n * p2c) limits.p2c_sum) written in
        let enough : limits.least_p2c ≤ p2c = leb-true limits.least_p2c p2c least.0 in
        let some : nat_le 1 p2c ≡ true = le-leb 1 p2c (omega (arith, enough)) in
        all_pass (λ r. not (is_password_based r.management) || nat_le 1 p2c) recipient_keys
        (λ r. or_right (not (is_password_based r.management)) (nat_le 1 p2c) some)

-- A key that is used directly has the length of a content encryption key.
pub direct_fits : (enc : ContentAlg) (recipient_keys : List Code) (key : List ℕ)
    → list_all (λ r. fits (key_view r.key.now) (EncryptionWith r.management enc)) recipient_keys ≡ true
    → direct_key (map recipient_key_view recipient_keys) ≡ Some key → length key ≡ cek_len enc
direct_fits enc [] key fit is = cc is
direct_fits enc (r ∷ rest) key fit is =
    by_use (is_direct r.management) refl
    (and_parts (fits (key_view r.key.now) (EncryptionWith r.management enc))
    (list_all (λ q. fits (key_view q.key.now) (EncryptionWith q.management enc)) rest) fit).0 is
  where
    by_use : (direct : Bool) → is_direct r.management ≡ direct → fits (key_view r.key.now) (EncryptionWith r.management enc) ≡ true
        → (if direct then Some (key_view r.key.now).octets else None) ≡ Some key
        → length key ≡ cek_len enc
    by_use true direct fit is =
        let same : (key_view r.key.now).octets ≡ key = cc is in
        ap length (sym same) ∙ direct_key_fits r.management enc (key_view r.key.now) direct fit
    by_use false direct fit is = cc is

-- A key that is used directly is the content encryption key, since it is the only key.
pub direct_is_cek : (recipient_keys : List Code) (drawn cek : List ℕ)
    → list_all (λ r. not (is_direct r.management) || nat_le (length recipient_keys) 1) recipient_keys ≡ true
    → cek ≡ unwrap_or (direct_key (map recipient_key_view recipient_keys)) drawn
    → AllByRecursion (λ r. r.management ≡ Dir → cek ≡ (key_view r.key.now).octets) recipient_keys
direct_is_cek [] drawn cek alone is = tt
direct_is_cek (r ∷ []) drawn cek alone is = (λ direct. is ∙ rw direct refl, tt)
direct_is_cek (r ∷ (other ∷ rest)) drawn cek alone is =
    none_direct (nat_le (length (r ∷ (other ∷ rest))) 1) (lt-leb (length (r ∷ (other ∷ rest))) 1 (omega arith)) (r ∷ (other ∷ rest)) alone
  where
    none_direct : (few : Bool) → few ≡ false → (list : List Code) → list_all (λ r. not (is_direct r.management) || few) list ≡ true
        → AllByRecursion (λ r. r.management ≡ Dir → cek ≡ (key_view r.key.now).octets) list
    none_direct few several [] alone = tt
    none_direct few several (q ∷ list) alone =
        let parts = and_parts (not (is_direct q.management) || few) (list_all (λ r. not (is_direct r.management) || few) list) alone in
        let first : (not (is_direct q.management) || few) ≡ true = parts.0 in
        (λ direct. let no : (not (is_direct Dir) || few) ≡ true = rw direct at first in cc, none_direct few several list parts.1)
