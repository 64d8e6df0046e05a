use Rattle.std.proofs.Common.{◌≡◌, ℕ, ◌+◌, ◌*◌, ◌/◌, ◌%◌, ◌^◌, ◌<◌, List, length, slice_index, ap₂, ◌∙◌, rules}
use Rattle.std.specs.Simd.Lanes.{zip2}
use Rattle.modes.proofs.Lanes.{Lane, lane, lane_by, lane_sum, lane_splat, lane_fits, lane_joined}
use Rattle.modes.proofs.polynomial_product.product_64.Goals as goal

right : {l : ℕ} {v w : List ℕ} {a b : ℕ} → Lane l v a → Lane l w b → Lane l (zip2 (λ a b. a / 2 ^ b) v w) (a / 2 ^ b)
right p q = lane_by (λ a b. a / 2 ^ b) p q

left : {l : ℕ} {v w : List ℕ} {a b : ℕ} → Lane l v a → Lane l w b → Lane l (zip2 (λ a b. a * 2 ^ b % 2 ^ 64) v w) (a * 2 ^ b % 2 ^ 64)
left p q = lane_by (λ a b. a * 2 ^ b % 2 ^ 64) p q

pub returns : goal.returns
returns c l h =
    let x = lane l h c.args.x c.fits-x.0 in
    let y = lane l h c.args.y c.fits-y.0 in
    let by = lane_splat l 32 h in
    let x1 = right x by in
    let y1 = right y by in
    let sx = lane_sum x1 x in
    let sy = lane_sum y1 y in
    let long_front : length c.product_32-front.result ≡ 2 = search rules in
    let front = lane l h c.product_32-front.result long_front in
    let long_back : length c.product_32-back.result ≡ 2 = search rules in
    let back = lane l h c.product_32-back.result long_back in
    let long_sums : length c.product_32-sums.result ≡ 2 = search rules in
    let sums = lane l h c.product_32-sums.result long_sums in
    let small : slice_index c.product_32-back.result l < 2 ^ 64 = search rules in
    let middle = lane_sum (lane_sum sums front) back in
    ap₂ (λ p q. p * 2 ^ 64 + q) (lane_sum front (right middle by)).is (lane_sum back (left middle by)).is
    ∙ lane_joined (slice_index c.args.x l) (slice_index c.args.y l) _ _ _ _ _ _ _
    (lane_fits l h c.args.x c.fits-x.0 c.fits-x.1)
    (lane_fits l h c.args.y c.fits-y.0 c.fits-y.1)
    small
    x1.is y1.is sx.is sy.is
    (c.product_32-front.ensures l h) (c.product_32-back.ensures l h) (c.product_32-sums.ensures l h)
