-- Fewer iterations than the limits allow.
use Rattle.std.proofs.Common.{◌≡◌, ℕ, ◌⊎◌, inl, inr, Bool, true, false, List, Result, Ok, Err, refl, ap, sym}
use Rattle.std.specs.List.{list_any}
use Rattle.std.specs.Option.{ok_or}
use Rattle.std.specs.Prelude.{is_some}
use Rattle.octets.specs.declared.refusal.Refusal.{Refusal}
use Rattle.octets.specs.declared.refusal.Refusal.TheVariants.{Unsupported, KeyDoesNotFit, Limit, NotOpened}
use Rattle.octets.specs.Outcomes.{◌>>=◌, needs}
use Rattle.keys.specs.Limits.{limits}
use Rattle.tokens.specs.Decrypting.{Pair, with_iterations, algorithms_of, all_pairs, has_pairs, are_within, pairs_to_try, sealed_content, first_opened, decrypted, FewerIterationsRefuse}
use Rattle.tokens.proofs.Decrypting.Pairs.{fewer_are_within}

-- what three tests in turn answer
abbrev judged : Bool → Bool → Bool → List Pair → (List Pair → Result (List ℕ) Refusal) → Result (List ℕ) Refusal
judged supported candidates few pairs opens =
    (needs supported Unsupported >>= λ a. needs candidates KeyDoesNotFit >>= λ b. needs few Limit >>= λ c. Ok pairs) >>= opens

-- If the third test is stricter, the answer is the same or Limit.
stricter : (supported candidates strict few : Bool) (pairs : List Pair) (opens : List Pair → Result (List ℕ) Refusal) → (strict ≡ true → few ≡ true)
    → (judged supported candidates strict pairs opens ≡ judged supported candidates few pairs opens)
    ⊎ (judged supported candidates strict pairs opens ≡ Err Limit)
stricter false candidates strict few pairs opens h = inl refl
stricter true false strict few pairs opens h = inl refl
stricter true true false few pairs opens h = inr refl
stricter true true true few pairs opens h = inl (ap (λ t. judged true true t pairs opens) (sym (h refl)))

pub fewer_iterations_refuse : FewerIterationsRefuse
unfolding decrypted pairs_to_try
fewer_iterations_refuse most keys o =
    let pairs = all_pairs limits.management keys o.recipients in
    stricter (list_any (λ r. is_some (algorithms_of limits.management r)) o.recipients) (has_pairs pairs)
    (are_within (with_iterations most limits) pairs) (are_within limits pairs) pairs (λ ps. ok_or (first_opened (sealed_content o) ps) NotOpened)
    (fewer_are_within most pairs)
