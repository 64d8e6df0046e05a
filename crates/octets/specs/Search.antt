-- The first octet string that passes a test, when all up to a length are tried. By it the inverse of a definition is a function. No code
-- computes so.
use Rattle.std.specs.Prelude.{◌≡◌, ℕ, zero, suc, ◌≤◌, Bool, true, false, List, [], ◌∷◌, length, if◌then◌else◌, Option, Some, None, option_map}
use Rattle.std.specs.Option.{option_or}
use Rattle.octets.specs.Octets.{IsOctets}

-- ---- the search for the string that is sealed to given texts (docs/SPECIFICATION.md "Decrypting" 3)

-- the first that is there of f 0, .., f (n - 1)
abbrev pub first_below : {X : Type 0} → (ℕ → Option X) → ℕ → Option X
first_below f zero = None
first_below f (suc n) = option_or (first_below f n) (f n)

-- the first octet string that passes, of those of at most so many octets
unfoldable pub found_within : ℕ → (List ℕ → Bool) → Option (List ℕ)
found_within zero test = if test [] then Some [] else None
found_within (suc n) test =
    if test [] then Some []
    else first_below (λ octet. option_map (λ others. octet ∷ others) (found_within n (λ others. test (octet ∷ others)))) 256

-- What is found passes. If nothing is found, nothing passes.
pub record FindsOctets : Type 0 where
  pub found : (n : ℕ) (test : List ℕ → Bool) (x : List ℕ) → found_within n test ≡ Some x → (test x ≡ true) × IsOctets x × (length x ≤ n)
  pub nothing : (n : ℕ) (test : List ℕ → Bool) (x : List ℕ) → found_within n test ≡ None → IsOctets x → length x ≤ n → test x ≡ false
