-- A text that is split at dots is its parts with dots between them. If the text is octets, so are the parts.
use Rattle.std.proofs.Common.{◌≡◌, ℕ, suc, ◌+◌, ◌-◌, ◌==◌, List, [], ◌∷◌, ◌++◌, take, drop, Bool, true, false, cond, position, Option, Some, None, Result, Ok, is_none, refl, sym, ap, ◌∙◌, arith, add-one, subst}
use Rattle.std.proofs.lemmas.Bool.{eqb-true}
use Rattle.std.proofs.lemmas.Iterator.Adapters.{position_from-zero}
use Rattle.std.specs.List.{position_from}
use Rattle.std.specs.Option.{ok_or}
use Rattle.octets.specs.declared.refusal.Refusal.{Refusal}
use Rattle.octets.specs.declared.refusal.Refusal.TheVariants.{Form}
use Rattle.octets.specs.Octets.{IsOctets}
use Rattle.octets.specs.Outcomes.{◌>>=◌, needs}
use Rattle.octets.proofs.Lemmas.{IsOctets-front, IsOctets-back, steps, same_answer}
use Rattle.objects.specs.Texts.{is_dot, split_at_dot, three_parts}

-- ---- one dot

-- If a dot is found, the list is the part before it, the dot, and the part after it.
found_by : (b : Bool) (x : ℕ) (xs : List ℕ) (k n : ℕ) → is_dot x ≡ b → cond b (Some k) (position_from is_dot (k + 1) xs) ≡ Some n
    → (position_from is_dot (k + 1) xs ≡ Some n → (j : ℕ) × (n ≡ k + 1 + j) × (xs ≡ take j xs ++ 46 ∷ drop (j + 1) xs))
    → (j : ℕ) × (n ≡ k + j) × (x ∷ xs ≡ take j (x ∷ xs) ++ 46 ∷ drop (j + 1) (x ∷ xs))
found_by true x xs k n e h later =
    let here : n ≡ k = cc h in
    (0, omega arith, ap (λ y. y ∷ xs) (eqb-true x 46 e))
found_by false x xs k n e h later =
    let rest = later h in
    let place : n ≡ k + suc rest.0 = omega (arith, rest.1) in
    (suc rest.0, place, simp add-one (ap (λ ys. x ∷ ys) (simp add-one at rest.2)))

found : (xs : List ℕ) (k n : ℕ) → position_from is_dot k xs ≡ Some n → (j : ℕ) × (n ≡ k + j) × (xs ≡ take j xs ++ 46 ∷ drop (j + 1) xs)
found [] k n h = cc h
found (x ∷ xs) k n h = found_by (is_dot x) x xs k n refl h (found xs (k + 1) n)

joined_at : (text : List ℕ) (parts : List ℕ × List ℕ) (o : Option ℕ) → position is_dot text ≡ o
    → (ok_or o Form >>= λ i. Ok (take i text, drop (i + 1) text)) ≡ Ok parts → text ≡ parts.0 ++ 46 ∷ parts.1
joined_at text parts None e h = cc h
joined_at text parts (Some i) e h =
    let place = found text 0 i (sym (position_from-zero is_dot text) ∙ e) in
    let same : place.0 ≡ i = omega (arith, place.1) in
    let first : parts.0 ≡ take i text = cc h in
    let second : parts.1 ≡ drop (i + 1) text = cc h in
    rw (first, second) (subst (λ j. text ≡ take j text ++ 46 ∷ drop (j + 1) text) same place.2)

pub joined_of_split : (text : List ℕ) (parts : List ℕ × List ℕ) → split_at_dot text ≡ Ok parts → text ≡ parts.0 ++ 46 ∷ parts.1
unfolding split_at_dot
joined_of_split text parts h = joined_at text parts (position is_dot text) refl h

-- ---- two dots

abbrev third_step : List ℕ → List ℕ × List ℕ → Result (List ℕ × List ℕ × List ℕ) Refusal
third_step first second = needs (is_none (position is_dot second.1)) Form >>= (λ last. Ok (first, second.0, second.1))

abbrev second_step : List ℕ × List ℕ → Result (List ℕ × List ℕ × List ℕ) Refusal
second_step first = split_at_dot first.1 >>= third_step first.0

pub joined_of_three : (text : List ℕ) (parts : List ℕ × List ℕ × List ℕ) → three_parts text ≡ Ok parts → text ≡ parts.0 ++ 46 ∷ (parts.1 ++ 46 ∷ parts.2)
unfolding three_parts
joined_of_three text parts h =
    let a = steps (split_at_dot text) second_step parts h in
    let b = steps (split_at_dot a.0.1) (third_step a.0.0) parts a.2 in
    let c = steps (needs (is_none (position is_dot b.0.1)) Form) (λ last. Ok (a.0.0, b.0.0, b.0.1)) parts b.2 in
    joined_of_split text a.0 a.1 ∙ ap (λ rest. a.0.0 ++ 46 ∷ rest) (joined_of_split a.0.1 b.0 b.1)
    ∙ ap (λ (p : List ℕ × List ℕ × List ℕ). p.0 ++ 46 ∷ (p.1 ++ 46 ∷ p.2)) (same_answer (a.0.0, b.0.0, b.0.1) parts c.2)

-- ---- octets

around_dot : (a b : List ℕ) → IsOctets (a ++ 46 ∷ b) → IsOctets a × IsOctets b
around_dot a b h = (IsOctets-front a (46 ∷ b) h, λ i. IsOctets-back a (46 ∷ b) h (suc i))

-- The parts of octets are octets.
pub split_octets : (text : List ℕ) (parts : List ℕ × List ℕ) → IsOctets text → split_at_dot text ≡ Ok parts → IsOctets parts.0 × IsOctets parts.1
split_octets text parts octets h = around_dot parts.0 parts.1 (subst IsOctets (joined_of_split text parts h) octets)

pub three_octets : (text : List ℕ) (parts : List ℕ × List ℕ × List ℕ) → IsOctets text → three_parts text ≡ Ok parts
    → IsOctets parts.0 × IsOctets parts.1 × IsOctets parts.2
three_octets text parts octets h =
    let first = around_dot parts.0 (parts.1 ++ 46 ∷ parts.2) (subst IsOctets (joined_of_three text parts h) octets) in
    let others = around_dot parts.1 parts.2 first.1 in
    (first.0, others.0, others.1)
