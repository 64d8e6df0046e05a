-- What a command did to one output, seen on both outputs.
use Rattle.std.proofs.Common.{◌≡◌, ℕ, List, [], length, take, nat_le, Bool, true, false, if◌then◌else◌, Result, Ok, Err, refl, sym, ap, ◌∙◌}
use Rattle.std.specs.Result.{result_unwrap_or, OnErr, IsErrAnd}
use Rattle.octets.specs.declared.refusal.Refusal.{Refusal}
use Rattle.octets.specs.declared.refusal.Refusal.TheVariants.{Random}
use Rattle.octets.specs.Outcomes.{◌>>=◌, needs, is_external, AgreesUnlessExternal}
use Rattle.octets.specs.Code.Results.{accepted}
use Rattle.octets.specs.Plan.{OutputTexts, nothing, Plan, plan_map, plan_from, begun, beginning_of, without_content}
use Rattle.octets.proofs.Lemmas.{AgreesUnlessExternal-map}
use Rattle.keys.specs.Generating.{MadeKey, made_key, key_text, gen_answer}
use Rattle.keys.specs.Limits.{limits}
use Rattle.jose.specs.Ports.{as_text, as_content}
use Rattle.jose.specs.Jwk.{making}

pub agrees_as_text : (a : Result (List ℕ) Refusal) (text other : List ℕ) (r : Result (Unit {0}) Refusal) → other ≡ [] → AgreesUnlessExternal a text r
    → AgreesUnlessExternal (a >>= λ x. Ok (as_text x)) (record { text = text; content = other }) r
agrees_as_text a text other r e h = AgreesUnlessExternal-map as_text a text (record { text = text; content = other }) r
    (ap (λ q. record { text = text; content = q }) (sym e)) h

pub agrees_as_content : (a : Result (List ℕ) Refusal) (content other : List ℕ) (r : Result (Unit {0}) Refusal) → other ≡ [] → AgreesUnlessExternal a content r
    → AgreesUnlessExternal (a >>= λ x. Ok (as_content x)) (record { text = other; content = content }) r
agrees_as_content a content other r e h = AgreesUnlessExternal-map as_content a content (record { text = other; content = content }) r
    (ap (λ q. record { text = q; content = content }) (sym e)) h

-- The plan of a made key has the answer of `gen_answer`.
pub plan_of_making : (template random : List ℕ) → plan_from (making template) random
    ≡ (gen_answer limits template random >>= λ x. Ok (without_content (as_text x)))
unfolding gen_answer
plan_of_making template random = by_made (made_key limits template)
  where
    by_made : (made : Result MadeKey Refusal)
        → plan_from (made >>= λ m. Ok (record { drawn = m.len; plan = λ octets. without_content (as_text (key_text m octets)) })) random
        ≡ ((made >>= λ m. needs (nat_le m.len (length random)) Random >>= λ u. Ok (key_text m (take m.len random))) >>= λ x. Ok (without_content (as_text x)))
    by_made (Err r) = refl
    by_made (Ok m) = by_test (nat_le m.len (length random))
      where
        by_test : (enough : Bool) → (needs enough Random >>= λ u. Ok (without_content (as_text (key_text m (take m.len random)))))
            ≡ ((needs enough Random >>= λ u. Ok (key_text m (take m.len random))) >>= λ x. Ok (without_content (as_text x)))
        by_test true = refl
        by_test false = refl

-- The beginning that a mapped plan may write is mapped the same way.
pub beginning_map : (f : List ℕ → OutputTexts) (p : Plan (List ℕ)) (octets : List ℕ) (ended : Bool)
    → beginning_of (plan_map f p) (record { octets = octets; ended = ended }) ≡ f (beginning_of p (record { octets = octets; ended = ended }))
beginning_map f p octets false = refl
beginning_map f p octets true = by_answer (p.whole octets)
  where
    by_answer : (a : Result (List ℕ) Refusal) → result_unwrap_or (a >>= λ w. Ok (f w)) (f (p.fixed octets)) ≡ f (result_unwrap_or a (p.fixed octets))
    by_answer (Ok w) = refl
    by_answer (Err r) = refl

pub begun_by_text : (f : List ℕ → OutputTexts) → f [] ≡ nothing → (others : Bool) (a : Result (List ℕ) Refusal)
    → (if others then begun (a >>= λ x. Ok (without_content (f x))) (record { octets = []; ended = true }) else nothing) ≡ f (accepted a others)
begun_by_text f none true (Ok x) = refl
begun_by_text f none true (Err r) = sym none
begun_by_text f none false (Ok x) = sym none
begun_by_text f none false (Err r) = sym none

-- a fact about a refusal, from two others
pub both_on_refusal : {P Q R : Type 0} (r : Result (Unit {0}) Refusal) → OnErr r P → OnErr r Q → (P → Q → R) → OnErr r R
both_on_refusal (Ok done) p q f = tt
both_on_refusal (Err e) p q f = f p q

-- A refusal agrees with the answer if it is external or the answer has the same one.
pub refused : {W : Type 0} (answer : Result W Refusal) (wrote : W) (e : Refusal) (r : Result (Unit {0}) Refusal) → IsErrAnd r (λ refusal. refusal ≡ e)
    → (is_external e ≡ false → answer ≡ Err e) → AgreesUnlessExternal answer wrote r
refused answer wrote e (Ok done) same f = absurd same
refused answer wrote e (Err r) same f = λ inside. f (ap is_external (sym same) ∙ inside) ∙ ap Err (sym same)
