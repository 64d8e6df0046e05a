-- Products and their doubles in two halves of 128 bits.
use Rattle.std.proofs.Common.{◌≡◌, ℕ, ◌+◌, ◌*◌, ◌/◌, ◌%◌, ◌^◌, ◌<◌, bit_xor, ap, ap₂, ◌∙◌, arith}
use Rattle.std.specs.Int.Bits.{xor_shifted}
use Rattle.modes.proofs.Rows.{laws, rows}
use Rattle.modes.proofs.Karatsuba.{joined, joined_is, karatsuba, fronts, backs, sums, middles}
use Rattle.aes.proofs.Lemmas.{xor_swap}

-- The sum of two products, from the sums of their three products.
pub sum_of_products : (a x b y front back sum : ℕ) → a < 2 ^ 128 → b < 2 ^ 128 → back < 2 ^ 128
    → front ≡ bit_xor (fronts 64 a x) (fronts 64 b y)
    → back ≡ bit_xor (backs 64 a x) (backs 64 b y)
    → sum ≡ bit_xor (sums 64 a x) (sums 64 b y)
    → joined 64 128 front back (bit_xor (bit_xor sum front) back) ≡ bit_xor (rows a x) (rows b y)
sum_of_products a x b y front back sum small_a small_b small is_front is_back is_sum =
    joined_is 64 128 (λ m. omega arith) front back (bit_xor (bit_xor sum front) back) small
    ∙ ap₂ bit_xor
    (ap₂ (λ f b. bit_xor (f * 2 ^ 128) b) is_front is_back
    ∙ ap (λ f. bit_xor f (bit_xor (backs 64 a x) (backs 64 b y))) (laws.power_linear 128 (fronts 64 a x) (fronts 64 b y))
    ∙ xor_swap (fronts 64 a x * 2 ^ 128) (fronts 64 b y * 2 ^ 128) (backs 64 a x) (backs 64 b y))
    (ap (λ m. m * 2 ^ 64)
    (ap₂ bit_xor (ap₂ bit_xor is_sum is_front ∙ xor_swap (sums 64 a x) (sums 64 b y) (fronts 64 a x) (fronts 64 b y)) is_back
    ∙ xor_swap (bit_xor (sums 64 a x) (fronts 64 a x)) (bit_xor (sums 64 b y) (fronts 64 b y)) (backs 64 a x) (backs 64 b y))
    ∙ laws.power_linear 64 (middles 64 a x) (middles 64 b y))
    ∙ xor_swap (bit_xor (fronts 64 a x * 2 ^ 128) (backs 64 a x)) (bit_xor (fronts 64 b y * 2 ^ 128) (backs 64 b y))
    (middles 64 a x * 2 ^ 64) (middles 64 b y * 2 ^ 64)
    ∙ ap₂ bit_xor
    (karatsuba 64 128 (omega arith) (λ v. omega arith) a x (omega (arith, small_a)))
    (karatsuba 64 128 (omega arith) (λ v. omega arith) b y (omega (arith, small_b)))

-- A number of 255 bits shifted to the left by one bit, in two halves.
pub doubled_is : (high low : ℕ) → low < 2 ^ 128 → high * 2 ^ 128 + low < 2 ^ 255
    → bit_xor (high * 2 % 2 ^ 128) (low / 2 ^ 127) * 2 ^ 128 + low * 2 % 2 ^ 128 ≡ (high * 2 ^ 128 + low) * 2
doubled_is high low s w =
    let fits : high * 2 % 2 ^ 128 ≡ high * 2 ^ 1 = omega (arith, w) in
    let bit : low / 2 ^ 127 < 2 ^ 1 = omega (arith, s) in
    ap (λ v. v * 2 ^ 128 + low * 2 % 2 ^ 128) (ap (λ v. bit_xor v (low / 2 ^ 127)) fits ∙ xor_shifted high 1 (low / 2 ^ 127) bit)
    ∙ (let e : (high * 2 ^ 1 + low / 2 ^ 127) * 2 ^ 128 + low * 2 % 2 ^ 128 ≡ (high * 2 ^ 128 + low) * 2 = omega (arith, s) in e)
