-- Inputs in memory, whose items are known to be octets.
use Rattle.std.proofs.Common.{◌≡◌, ℕ, List, [], take, Some, ap, sym, subst, ◌∙◌}
use Rattle.std.proofs.Math.Bridge.{le_prop}
use Rattle.octets.specs.Octets.{IsOctets}
use Rattle.octets.specs.Devices.{appended, observed, IsPossibleInput}
use Rattle.octets.specs.Code.Views.{Contents, front_of, is_read, source_of, source_is_given}

-- There is only one proof that the items are octets.
one_proof : (octets : List ℕ) → IsProp ((n : ℕ) → IsOctets (take n octets))
one_proof octets = hlevel le_prop

-- Two inputs with the same octets, position and step are equal.
pub contents_same : (a b : Contents) → a.octets ≡ b.octets → a.position ≡ b.position → a.step ≡ b.step → a ≡ b
contents_same a b octets position step =
    let made : (xs : List ℕ) → ℕ → ℕ → ((n : ℕ) → IsOctets (take n xs)) → Contents =
    λ xs p s known. record { octets = xs; position = p; step = s; fronts_are_octets = known } in
    let same_octets : (known : (n : ℕ) → IsOctets (take n b.octets)) → a ≡ made b.octets a.position a.step known =
    subst (λ (xs : List ℕ). (known : (n : ℕ) → IsOctets (take n xs)) → a ≡ made xs a.position a.step known) octets
    (λ known. ap (made a.octets a.position a.step) (one_proof a.octets a.fronts_are_octets known)) in
    same_octets b.fronts_are_octets
    ∙ ap (λ p. made b.octets p a.step b.fronts_are_octets) position
    ∙ ap (λ s. made b.octets b.position s b.fronts_are_octets) step

-- If nothing was read from an input before a call, all its octets are a possible input of the call.
pub contents_possible : (old new : Contents) (octets : List ℕ) → old.octets ≡ octets → old.position ≡ 0 → source_of new ≡ source_of old
    → IsPossibleInput (observed front_of is_read old new) octets
contents_possible old new octets all begins same =
    let nothing : front_of old ≡ [] = ap (λ n. take n old.octets) begins in
    subst (λ read. IsPossibleInput (record { octets = appended read (front_of new); ended = is_read new }) octets) (sym nothing)
    (source_is_given new octets (same ∙ ap Some all))
