use Rattle.std.proofs.Common.{◌≡◌, ◌≢◌, ◌==◌, ℕ, Bool, true, false, List, [], ◌∷◌, Option, Some, None, MatchOption, Bor, option_map, if◌then◌else◌, refl, ap, eq-eqb}
use Rattle.std.proofs.lemmas.Bool.{eqb-true}
use Rattle.std.proofs.lemmas.Str.Pattern.{strip_prefix_char}
use Rattle.tools.specs.SetWords.{after}
use Rattle.tools.proofs.set_words.after.Goals as goal

none_is : (front octet : ℕ) (rest : List ℕ) (test : Bool) → (octet == front) ≡ test → ((others : List ℕ) → octet ∷ rest ≢ front ∷ others)
    → None ≡ (if test then Some rest else None)
none_is front octet rest true is never = absurd (never rest (ap (λ x. x ∷ rest) (eqb-true octet front is)))
none_is front octet rest false is never = refl

after_is : (front : ℕ) (text : List ℕ) (r : Option (Bor (List ℕ)))
    → MatchOption r ((rest : List ℕ) → text ≢ front ∷ rest) (λ x. text ≡ front ∷ x.now) → option_map (λ x. x.now) r ≡ after front text
after_is front [] None never = refl
after_is front (octet ∷ rest) None never = none_is front octet rest (octet == front) refl never
after_is front text (Some x) is = rw (is, eq-eqb front front refl) refl

pub returns : goal.returns
returns c = after_is c.args.front c.args.text.now c.strip_prefix.result
    (strip_prefix_char c.args.front c.args.text.now c.strip_prefix.result c.strip_prefix.ensures.cases c.requires)
