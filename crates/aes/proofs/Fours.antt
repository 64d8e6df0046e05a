-- Functions of each of four blocks.
use Rattle.std.proofs.Common.{◌≡◌, ℕ, zero, suc, ◌+◌, ◌*◌, ◌≤◌, List, [], ◌∷◌, length, map, slice_index_or, ap, ap₂, arith}
use Rattle.aes.specs.Code.Blocks.{block}

pub four : (g : List ℕ → List ℕ) (xs : List (List ℕ)) (p q s t : List ℕ) → length xs ≡ 4
    → p ≡ g (slice_index_or xs 0 []) → q ≡ g (slice_index_or xs 1 []) → s ≡ g (slice_index_or xs 2 []) → t ≡ g (slice_index_or xs 3 [])
    → p ∷ q ∷ s ∷ t ∷ [] ≡ map g xs
four g (a ∷ b ∷ c ∷ d ∷ []) p q s t h ep eq es et = ap₂ (λ x xs. x ∷ xs) ep (ap₂ (λ x xs. x ∷ xs) eq (ap₂ (λ x xs. x ∷ xs) es (ap (λ x. x ∷ []) et)))
four g [] p q s t h ep eq es et = absurd (omega (arith, h))
four g (a ∷ []) p q s t h ep eq es et = absurd (omega (arith, h))
four g (a ∷ b ∷ []) p q s t h ep eq es et = absurd (omega (arith, h))
four g (a ∷ b ∷ c ∷ []) p q s t h ep eq es et = absurd (omega (arith, h))
four g (a ∷ b ∷ c ∷ d ∷ e ∷ xs) p q s t h ep eq es et = absurd (omega (arith, h))

-- the blocks of a vector of two
pub two : (b : ℕ → List ℕ) (v : List ℕ) → block v 0 ≡ b 0 → block v 1 ≡ b 1 → (i : ℕ) → 16 * i + 16 ≤ 32 → block v i ≡ b i
two b v first second zero h = first
two b v first second (suc zero) h = second
two b v first second (suc (suc i)) h = absurd (omega (arith, h))
