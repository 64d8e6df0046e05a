-- The effect of a call on an output, compared with its answer.
use Rattle.std.proofs.Common.{◌≡◌, List, [], ◌++◌, ℕ, length, Bool, true, Result, Ok, Err, OnOk, OnErr, IfErr, IsTrue, refl, sym, ◌∙◌, ap, subst, append-nil, rules}
use Rattle.std.proofs.Math.Seq.{drop-append_seam}
use lib.Dec.{leb-zero}
use Rattle.octets.specs.declared.refusal.Refusal.{Refusal}
use Rattle.octets.specs.declared.refusal.Refusal.TheVariants.{Write, Random}
use Rattle.octets.specs.Devices.{observed, appended, IsPossibleInput}
use Rattle.octets.specs.Outcomes.{◌>>=◌, needs, is_external, AgreesUnlessExternal}
use Rattle.octets.specs.Plan.{OutputTexts, Plan, plan_map, plan_from, by_plan, without_random, planned, without_content}

pub AgreesUnlessExternal-map : {W V : Type 0} (f : W → V) (a : Result W Refusal) (w : W) (v : V) (r : Result (Unit {0}) Refusal) → f w ≡ v
    → AgreesUnlessExternal a w r → AgreesUnlessExternal (a >>= λ x. Ok (f x)) v r
AgreesUnlessExternal-map f a w v (Ok done) e h = ap (λ q. q >>= λ x. Ok (f x)) h ∙ ap Ok e
AgreesUnlessExternal-map f a w v (Err r) e h = λ inside. ap (λ q. q >>= λ x. Ok (f x)) (h inside)

-- ---- drafts

-- A plan that draws nothing is the same for every random input.
pub plan_from-without_random : {W : Type 0} (plan : Plan W) (random : List ℕ) → plan_from (Ok (without_random plan)) random ≡ Ok plan
plan_from-without_random plan random = ap (λ test. needs test Random >>= λ u. Ok plan) (leb-zero (length random))

-- The draft of a plan that draws nothing leads to this plan for every random input.
pub plan_from-by_plan : {W : Type 0} (plan : Result (Plan W) Refusal) (random : List ℕ) → plan_from (by_plan plan) random ≡ plan
plan_from-by_plan (Ok p) random = plan_from-without_random p random
plan_from-by_plan (Err r) random = refl

-- ---- answers

-- The answer of a mapped plan is the mapped answer of the plan.
pub planned_map : {W V : Type 0} (f : W → V) (plan : Result (Plan W) Refusal) (content : List ℕ)
    → planned (plan >>= λ p. Ok (plan_map f p)) content ≡ (planned plan content >>= λ w. Ok (f w))
planned_map f (Ok p) content = refl
planned_map f (Err r) content = refl

-- A plan without a content has the same answer for every content.
pub planned_without_content : {W : Type 0} (f : List ℕ → W) (a : Result (List ℕ) Refusal) (nil : List ℕ)
    → planned (a >>= λ x. Ok (without_content (f x))) nil ≡ (a >>= λ x. Ok (f x))
planned_without_content f (Ok x) nil = refl
planned_without_content f (Err r) nil = refl

-- If a fact holds on success and implies another, the other holds on success.
pub on_success : {X P Q : Type 0} (r : Result X Refusal) → OnOk r P → (P → Q) → OnOk r Q
on_success (Ok done) p f = f p
on_success (Err e) p f = tt

-- A fact that always holds also holds on refusal.
pub at_refusal : {X P : Type 0} (r : Result X Refusal) → P → OnErr r P
at_refusal (Ok done) p = tt
at_refusal (Err e) p = p

-- If a fact holds on refusal and implies another, the other holds on refusal.
pub on_refusal : {X P Q : Type 0} (r : Result X Refusal) → OnErr r P → (P → Q) → OnErr r Q
on_refusal (Ok done) p f = tt
on_refusal (Err e) p f = f p

-- A fact about a refusal holds of the result with this refusal.
pub of_refusal : {X : Type 0} (P : Refusal → Type 0) (r : Result X Refusal) (e : Refusal) → r ≡ Err e → P e → IfErr r P
of_refusal P r e is fact = subst (λ r. IfErr r P) (sym is) fact

-- The octets that were read may be the whole input.
pub seen_possible : {D : Type 0} (consumed : D → List ℕ) (is_at_end : D → Bool) (old new : D)
    → IsPossibleInput (observed consumed is_at_end old new) (appended (consumed old) (consumed new))
seen_possible consumed is_at_end old new = record {
  rest = [];
  continues = sym (append-nil (appended (consumed old) (consumed new)));
  ends = λ _. refl;
  octets = search rules;
}

-- ---- the last call decides: it succeeded, or an output failed

pub agrees_last : {W P : Type 0} (answer : Result W Refusal) (wrote : W) (r : Result (Unit {0}) Refusal) → OnOk r P → OnErr r (r ≡ Err Write)
    → (P → answer ≡ Ok wrote)
    → AgreesUnlessExternal answer wrote r
agrees_last answer wrote (Ok done) all cause f = f all
agrees_last answer wrote (Err e) all cause f = λ inside.
    let write : e ≡ Write = cc cause in
    let outside : is_external e ≡ true = ap is_external write in
    cc outside

-- ---- an input that was read to its end

pub appended-append : (old p : List ℕ) → appended old (old ++ p) ≡ p
appended-append old p = drop-append_seam old p

-- If an input was read to its end, the whole input is what was read.
pub whole_is : {D : Type 0} (consumed : D → List ℕ) (is_at_end : D → Bool) (old new : D) (items whole : List ℕ) → consumed new ≡ consumed old ++ items
    → IsTrue (is_at_end new)
    → IsPossibleInput (observed consumed is_at_end old new) whole → whole ≡ items
whole_is consumed is_at_end old new items whole e at_end possible =
    possible.continues ∙ ap (λ rest. appended (consumed old) (consumed new) ++ rest) (possible.ends at_end)
    ∙ append-nil (appended (consumed old) (consumed new))
    ∙ ap (appended (consumed old)) e ∙ appended-append (consumed old) items

-- ---- two outputs that were written

-- If both texts were written, they are exactly what was added to the two outputs.
pub both_written : (texts : OutputTexts) (old new old_beside new_beside : List ℕ) → new ≡ old ++ texts.text → new_beside ≡ old_beside ++ texts.content
    → texts ≡ record { text = appended old new; content = appended old_beside new_beside }
both_written texts old new old_beside new_beside text content =
    ap (λ t. record { text = t; content = texts.content }) (sym (ap (appended old) text ∙ appended-append old texts.text))
    ∙ ap (λ c. record { text = appended old new; content = c }) (sym (ap (appended old_beside) content ∙ appended-append old_beside texts.content))
