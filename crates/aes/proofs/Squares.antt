-- States: their octets by row and column.
use Rattle.std.proofs.Common.{◌≡◌, ℕ, zero, suc, ◌+◌, ◌*◌, ◌/◌, ◌%◌, ◌<◌, List, length, get_or, sym, ap₂, subst, ◌∙◌, arith, ext_get_or}
use Rattle.std.proofs.lemmas.List.FromFn.{length-map-range_with_len, get_or-map-range_with_len}
use Rattle.aes.specs.State.{at, square}

pub length-square : (f : ℕ → ℕ → ℕ) → length (square f) ≡ 16
unfolding square
length-square f = length-map-range_with_len (λ n. f (n % 4) (n / 4)) 0 16

pub at-square : (f : ℕ → ℕ → ℕ) (r c : ℕ) → r < 4 → c < 4 → at (square f) r c ≡ f r c
unfolding square
at-square f r c h k =
    get_or-map-range_with_len (λ n. f (n % 4) (n / 4)) 0 16 (r + 4 * c) (r + 4 * c) 0 (omega arith) (omega arith)
    ∙ ap₂ f (let e : (r + 4 * c) % 4 ≡ r = omega arith in e) (let e : (r + 4 * c) / 4 ≡ c = omega arith in e)

-- A block that has the octets of f is the state of f.
pub same_square : (f : ℕ → ℕ → ℕ) (b : List ℕ) → length b ≡ 16 → ((r c : ℕ) → r < 4 → c < 4 → f r c ≡ at b r c) → square f ≡ b
same_square f b n h = ext_get_or 0 (square f) b (length-square f ∙ sym n) (λ i l.
    let r : i % 4 < 4 = omega arith in
    let c : i / 4 < 4 = omega (arith, subst (λ k. i < k) (length-square f) l) in
    let e : i % 4 + 4 * (i / 4) ≡ i = omega arith in
    subst (λ k. get_or (square f) k 0 ≡ get_or b k 0) e (at-square f (i % 4) (i / 4) r c ∙ h (i % 4) (i / 4) r c))

-- A fact that holds in each of the four rows holds in every row.
pub by_row : (P : ℕ → Type 0) → P 0 → P 1 → P 2 → P 3 → (r : ℕ) → r < 4 → P r
by_row P p q s t zero h = p
by_row P p q s t (suc zero) h = q
by_row P p q s t (suc (suc zero)) h = s
by_row P p q s t (suc (suc (suc zero))) h = t
by_row P p q s t (suc (suc (suc (suc r)))) h = absurd (omega arith)
