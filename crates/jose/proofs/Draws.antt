-- How much of a random input is read.
use Rattle.std.proofs.Common.{◌≡◌, ◌≤◌, ℕ, List, length, Result, Ok, Err, refl, ap, ◌∙◌, arith}
use Rattle.std.proofs.Math.Seq.{drop-length}
use Rattle.octets.specs.declared.refusal.Refusal.{Refusal}
use Rattle.octets.specs.Devices.{appended}
use Rattle.octets.specs.Outcomes.{◌>>=◌}
use Rattle.octets.specs.Plan.{OutputTexts, Plan, Draft, drawn_of, without_content, by_plan}
use Rattle.keys.specs.Generating.{MadeKey, made_key, key_text}
use Rattle.keys.specs.Limits.{limits}
use Rattle.jose.specs.Jwk.{making}
use Rattle.jose.specs.Ports.{as_text}

-- ---- an input that was not read

pub nothing_drawn : (octets : List ℕ) → length (appended octets octets) ≡ 0
nothing_drawn octets = ap length (drop-length octets)

pub none_drawn : (octets : List ℕ) (most : ℕ) → length (appended octets octets) ≤ most
none_drawn octets most = let none = nothing_drawn octets in omega (arith, none)

-- ---- an input from which a key was made, as the template asks, or which a refused template left untouched

abbrev draft_by : Result MadeKey Refusal → Result (Draft OutputTexts) Refusal
draft_by made = made >>= λ m. Ok (record { drawn = m.len; plan = λ octets. without_content (as_text (key_text m octets)) })

pub key_drawn : {D : Type 0} (consumed : D → List ℕ) (old new : D) (template : List ℕ)
    → ((made : MadeKey) → made_key limits template ≡ Ok made → length (appended (consumed old) (consumed new)) ≡ made.len)
    → ((refusal : Refusal) → made_key limits template ≡ Err refusal → new ≡ old)
    → length (appended (consumed old) (consumed new)) ≡ drawn_of (making template)
key_drawn consumed old new template = by_made (made_key limits template)
  where
    by_made : (made : Result MadeKey Refusal) → ((m : MadeKey) → made ≡ Ok m → length (appended (consumed old) (consumed new)) ≡ m.len)
        → ((r : Refusal) → made ≡ Err r → new ≡ old) → length (appended (consumed old) (consumed new)) ≡ drawn_of (draft_by made)
    by_made (Ok m) drawn untouched = drawn m refl
    by_made (Err r) drawn untouched = ap (λ d. length (appended (consumed old) (consumed d))) (untouched r refl) ∙ nothing_drawn (consumed old)

pub key_drawn_at_most : {D : Type 0} (consumed : D → List ℕ) (old new : D) (template : List ℕ)
    → ((made : MadeKey) → made_key limits template ≡ Ok made → length (appended (consumed old) (consumed new)) ≤ made.len)
    → ((refusal : Refusal) → made_key limits template ≡ Err refusal → new ≡ old)
    → length (appended (consumed old) (consumed new)) ≤ drawn_of (making template)
key_drawn_at_most consumed old new template = by_made (made_key limits template)
  where
    by_made : (made : Result MadeKey Refusal) → ((m : MadeKey) → made ≡ Ok m → length (appended (consumed old) (consumed new)) ≤ m.len)
        → ((r : Refusal) → made ≡ Err r → new ≡ old) → length (appended (consumed old) (consumed new)) ≤ drawn_of (draft_by made)
    by_made (Ok m) drawn untouched = drawn m refl
    by_made (Err r) drawn untouched = rw (untouched r refl) (none_drawn (consumed old) 0)

-- If the draft of a key is refused, its template is refused the same way.
pub making_refused : (template : List ℕ) (refusal : Refusal) → making template ≡ Err refusal → made_key limits template ≡ Err refusal
making_refused template refusal = by_made (made_key limits template)
  where
    by_made : (made : Result MadeKey Refusal) → draft_by made ≡ Err refusal → made ≡ Err refusal
    by_made (Ok m) is = cc is
    by_made (Err r) is = ap Err (cc is)

-- ---- drafts of plans

pub by_plan_drawn : {W : Type 0} (plan : Result (Plan W) Refusal) → drawn_of (by_plan plan) ≡ 0
by_plan_drawn (Ok p) = refl
by_plan_drawn (Err r) = refl

pub by_plan_refused : {W : Type 0} (plan : Result (Plan W) Refusal) (refusal : Refusal) → by_plan plan ≡ Err refusal → plan ≡ Err refusal
by_plan_refused (Ok p) refusal is = cc is
by_plan_refused (Err r) refusal is = ap Err (cc is)
