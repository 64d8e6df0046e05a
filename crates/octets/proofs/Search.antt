-- The search for an octet string finds one that passes, and finds none only if there is none.
use Rattle.std.proofs.Common.{◌≡◌, ℕ, zero, suc, ◌<◌, ◌≤◌, Bool, true, false, List, [], ◌∷◌, length, if◌then◌else◌, Option, Some, None, ◌⊎◌, inl, inr, refl, ◌∙◌, ap, subst, arith, ⊎_elim}
use Rattle.std.specs.Option.{option_or, option_map}
use Rattle.std.proofs.lemmas.Bool.{cases_lt}
use Rattle.octets.specs.Octets.{IsOctets}
use Rattle.octets.specs.Search.{first_below, found_within, FindsOctets}
use Rattle.octets.proofs.Decoded.{IsOctets-nil, first_or}

module _ {X : Type 0} where
  -- An alternative of two options is one of them.
  or_found : (o p : Option X) (x : X) → option_or o p ≡ Some x → (o ≡ Some x) ⊎ (p ≡ Some x)
  or_found None p x h = inr h
  or_found (Some y) p x h = inl h

  -- If an alternative of two options is None, both options are.
  or_none : (o p : Option X) → option_or o p ≡ None → (o ≡ None) × (p ≡ None)
  or_none None p h = (refl, h)
  or_none (Some y) p h = cc h

  -- The value that is found is the one that is tried first, or is found later.
  if_found : (b : Bool) (x y : X) (o : Option X) → (if b then Some x else o) ≡ Some y → ((b ≡ true) × (x ≡ y)) ⊎ (o ≡ Some y)
  if_found true x y o h = inl (refl, cc h)
  if_found false x y o h = inr h

  -- If no value is found, the one that is tried first does not pass.
  if_none : (b : Bool) (x : X) (o : Option X) → (if b then Some x else o) ≡ None → (b ≡ false) × (o ≡ None)
  if_none true x o h = cc h
  if_none false x o h = (refl, h)

  -- The first value below m is found at some k below m.
  below_found : (f : ℕ → Option X) (m : ℕ) (x : X) → first_below f m ≡ Some x → (k : ℕ) × (k < m) × (f k ≡ Some x)
  below_found f zero x h = cc h
  below_found f (suc m) x h = elim (or_found (first_below f m) (f m) x h) [
    | inl before ↦ let r = below_found f m x before in (r.0, omega (arith, r.1), r.2)
    | inr here ↦ (m, omega arith, here)
  ]

  -- If no value is found below m, none is found at any k below m.
  below_none : (f : ℕ → Option X) (m k : ℕ) → first_below f m ≡ None → k < m → f k ≡ None
  below_none f zero k h l = absurd (omega arith)
  below_none f (suc m) k h l =
      let r = or_none (first_below f m) (f m) h in
      ⊎_elim (λ before. below_none f m k r.0 before) (λ past. ap f (let e : k ≡ m = omega arith in e) ∙ r.1) (cases_lt k m)

-- The value of a mapped option is the image of a value that was there.
map_found : {X Y : Type 0} (f : X → Y) (o : Option X) (y : Y) → option_map f o ≡ Some y → (x : X) × (o ≡ Some x) × (f x ≡ y)
map_found f None y h = cc h
map_found f (Some x) y h = (x, refl, cc h)

-- If a mapped option has no value, the option had none.
map_none : {X Y : Type 0} (f : X → Y) (o : Option X) → option_map f o ≡ None → o ≡ None
map_none f None h = refl
map_none f (Some x) h = cc h

-- a string that passes and begins with this octet
abbrev behind : ℕ → (List ℕ → Bool) → ℕ → Option (List ℕ)
behind n test octet = option_map (λ others. octet ∷ others) (found_within n (λ others. test (octet ∷ others)))

-- the string passes and has at most n octets
abbrev IsFound : ℕ → (List ℕ → Bool) → List ℕ → Type 0
IsFound n test x = (test x ≡ true) × IsOctets x × (length x ≤ n)

-- A string that is found passes and has at most n octets.
found : (n : ℕ) (test : List ℕ → Bool) (x : List ℕ) → found_within n test ≡ Some x → IsFound n test x
unfolding found_within
found zero test x h = elim (if_found (test []) [] x None h) [
  | inl e ↦ subst (IsFound zero test) e.1 (e.0, IsOctets-nil, omega arith)
  | inr e ↦ cc e
]
found (suc n) test x h = elim (if_found (test []) [] x (first_below (behind n test) 256) h) [
  | inl e ↦ subst (IsFound (suc n) test) e.1 (e.0, IsOctets-nil, omega arith)
  | inr e ↦
      let r = below_found (behind n test) 256 x e in
      let m = map_found (λ (others : List ℕ). r.0 ∷ others) (found_within n (λ others. test (r.0 ∷ others))) x r.2 in
      let i = found n (λ others. test (r.0 ∷ others)) m.0 m.1 in
      subst (IsFound (suc n) test) m.2 (i.0, first_or r.0 m.0 r.1 i.1, omega (arith, i.2))
]

-- If no string is found, no string of at most n octets passes.
nothing : (n : ℕ) (test : List ℕ → Bool) (x : List ℕ) → found_within n test ≡ None → IsOctets x → length x ≤ n → test x ≡ false
unfolding found_within
nothing zero test [] h octets short = (if_none (test []) [] None h).0
nothing zero test (y ∷ x) h octets short = absurd (omega arith)
nothing (suc n) test [] h octets short = (if_none (test []) [] (first_below (behind n test) 256) h).0
nothing (suc n) test (y ∷ x) h octets short =
    let none = (if_none (test []) [] (first_below (behind n test) 256) h).1 in
    let here = below_none (behind n test) 256 y none (octets 0) in
    nothing n (λ others. test (y ∷ others)) x (map_none (λ (others : List ℕ). y ∷ others) (found_within n (λ others. test (y ∷ others))) here)
    (λ i. octets (suc i)) (omega arith)

-- The search finds an octet string that passes, if there is one.
pub finds_octets : FindsOctets
finds_octets = record { found = found; nothing = nothing }
