use Rattle.std.proofs.Common.{ℕ, ◌*◌, ◌%◌, ◌^◌, List, slice_index, bit_and, ◌∙◌}
use Rattle.std.specs.Simd.Lanes.{zip2}
use Rattle.modes.proofs.Lanes.{Lane, lane, lane_by, lane_sum, lane_splat, lane_fits}
use Rattle.modes.proofs.Columns.{columns_are}
use Rattle.modes.proofs.polynomial_product.product_32.Goals as goal

times : {l : ℕ} {v w : List ℕ} {a b : ℕ} → Lane l v a → Lane l w b → Lane l (zip2 (λ a b. a * b % 2 ^ 64) v w) (a * b % 2 ^ 64)
times p q = lane_by (λ a b. a * b % 2 ^ 64) p q

masked : {l : ℕ} {v w : List ℕ} {a b : ℕ} → Lane l v a → Lane l w b → Lane l (zip2 bit_and v w) (bit_and a b)
masked p q = lane_by bit_and p q

pub returns : goal.returns
returns c l h =
    let x = lane l h c.args.x c.fits-x.0 in
    let y = lane l h c.args.y c.fits-y.0 in
    let x0 = masked x (lane_splat l 0x11111111 h) in
    let x1 = masked x (lane_splat l 0x22222222 h) in
    let x2 = masked x (lane_splat l 0x44444444 h) in
    let x3 = masked x (lane_splat l 0x88888888 h) in
    let y0 = masked y (lane_splat l 0x11111111 h) in
    let y1 = masked y (lane_splat l 0x22222222 h) in
    let y2 = masked y (lane_splat l 0x44444444 h) in
    let y3 = masked y (lane_splat l 0x88888888 h) in
    let z = lane_sum (lane_sum (lane_sum
    (masked (lane_sum (lane_sum (lane_sum (times x0 y0) (times x1 y3)) (times x2 y2)) (times x3 y1)) (lane_splat l 0x1111111111111111 h))
    (masked (lane_sum (lane_sum (lane_sum (times x0 y1) (times x1 y0)) (times x2 y3)) (times x3 y2)) (lane_splat l 0x2222222222222222 h)))
    (masked (lane_sum (lane_sum (lane_sum (times x0 y2) (times x1 y1)) (times x2 y0)) (times x3 y3)) (lane_splat l 0x4444444444444444 h)))
    (masked (lane_sum (lane_sum (lane_sum (times x0 y3) (times x1 y2)) (times x2 y1)) (times x3 y0)) (lane_splat l 0x8888888888888888 h)) in
    z.is
    ∙ columns_are (slice_index c.args.x l) (slice_index c.args.y l)
    (lane_fits l h c.args.x c.fits-x.0 c.fits-x.1)
    (lane_fits l h c.args.y c.fits-y.0 c.fits-y.1)
