-- The first key that made a signature.
use Rattle.std.proofs.Common.{◌≡◌, ℕ, suc, ◌+◌, List, [], ◌∷◌, map, length, Bool, true, false, not, ◌||◌, cond, ltb, Option, Some, None, is_some, Ok, refl, sym, ap, ◌∙◌, arith, lt-ltb, le-ltb, ltb-true, ltb-false}
use Rattle.std.proofs.lemmas.List.{length-map}
use Rattle.std.specs.List.{list_any, position, position_or_len}
use Rattle.octets.specs.declared.refusal.Refusal.TheVariants.{Unsupported, KeyDoesNotFit, NotOpened}
use Rattle.octets.specs.Outcomes.{◌>>=◌, needs}
use Rattle.std.specs.Option.{ok_or}
use Rattle.tokens.specs.Verifying.{FirstVerifies, first_signer, may_verify, verifies, are_verified, verified_payload, verified_by}
use Rattle.keys.specs.Algorithms.{signature_alg_of}
use Rattle.tokens.proofs.Verifying.Detached.{by_signature}

-- Mapped elements are found at the same place.
module _ {A B : Type 0} (p : B → Bool) (q : A → Bool) (f : A → B) (same : (x : A) → q x ≡ p (f x)) where
  until : (xs : List A) → position_or_len q xs ≡ position_or_len p (map f xs)
  until [] = refl
  until (x ∷ xs) =
      ap (λ b. cond (not b) (1 + position_or_len q xs) 0) (same x) ∙ ap (λ n. cond (not (p (f x))) (1 + n) 0) (until xs)

  pub position-map : (xs : List A) → position q xs ≡ position p (map f xs)
  position-map xs =
      ap (λ n. cond (ltb n (length xs)) (Some n) None) (until xs)
      ∙ ap (λ l. cond (ltb (position_or_len p (map f xs)) l) (Some (position_or_len p (map f xs))) None) (sym (length-map xs f))

one_more : (a b : ℕ) → ltb a b ≡ ltb (1 + a) (suc b)
one_more a b = by_test (ltb a b) refl
  where
    by_test : (less : Bool) → ltb a b ≡ less → less ≡ ltb (1 + a) (suc b)
    by_test true is = sym (lt-ltb (1 + a) (suc b) (omega (arith, ltb-true a b is)))
    by_test false is = sym (le-ltb (1 + a) (suc b) (omega (arith, ltb-false a b is)))

-- Some element passes exactly if there is a first one.
module _ {A : Type 0} (p : A → Bool) where
  before_end : (xs : List A) → list_any p xs ≡ ltb (position_or_len p xs) (length xs)
  before_end [] = refl
  before_end (x ∷ xs) = by_test (p x) (before_end xs)
    where
      by_test : (b : Bool) → list_any p xs ≡ ltb (position_or_len p xs) (length xs)
          → (b || list_any p xs) ≡ ltb (cond (not b) (1 + position_or_len p xs) 0) (suc (length xs))
      by_test true later = sym (lt-ltb 0 (suc (length xs)) (omega arith))
      by_test false later = later ∙ one_more (position_or_len p xs) (length xs)

  as_option : (b : Bool) (n : ℕ) → b ≡ is_some (cond b (Some n) None)
  as_option true n = refl
  as_option false n = refl

  pub any_is_found : (xs : List A) → list_any p xs ≡ is_some (position p xs)
  any_is_found xs = before_end xs ∙ as_option (ltb (position_or_len p xs) (length xs)) (position_or_len p xs)

-- The steps of both definitions are the same but for the last, where one asks whether there is a first key.
alike : (payload : List ℕ) (a b c : Bool) (o : Option ℕ) → c ≡ is_some o
    → (needs a Unsupported >>= λ s. needs b KeyDoesNotFit >>= λ k. needs c NotOpened >>= λ v. Ok payload)
    ≡ ((needs a Unsupported >>= λ s. needs b KeyDoesNotFit >>= λ k. ok_or o NotOpened) >>= λ place. Ok payload)
alike payload false b c o is = refl
alike payload true false c o is = refl
alike payload true true c None is = ap (λ c. needs c NotOpened >>= λ v. Ok payload) is
alike payload true true c (Some place) is = ap (λ c. needs c NotOpened >>= λ v. Ok payload) is

pub first_verifies : FirstVerifies
unfolding verified_payload verified_by
first_verifies keys o =
    alike o.payload (list_any (λ s. is_some (signature_alg_of s.alg)) o.signatures) (list_any (λ s. list_any (may_verify s) keys) o.signatures)
    (are_verified false keys o) (first_signer keys o)
    (by_signature o.payload o.signatures keys ∙ any_is_found (λ key. list_any (λ s. verifies o.payload s key) o.signatures) keys)
