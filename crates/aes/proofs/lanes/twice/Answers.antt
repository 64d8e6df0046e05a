use Rattle.std.proofs.Common.{◌≡◌, ℕ, zero, suc, List, length, ◌∙◌, arith}
use Rattle.std.specs.List.{range_with_len}
use Rattle.std.specs.Simd.Lanes.{pick_l}
use Rattle.std.proofs.lemmas.Simd.{pick_l_left, pick_l_whole}
use Rattle.std.proofs.Common.{◌++◌}
use Rattle.aes.proofs.lanes.twice.Goals as goal

once : (b : List ℕ) → length b ≡ 16 → pick_l 0 (b ++ b) (range_with_len 0 16) ≡ b
once b long = pick_l_left 0 b b 16 (range_with_len 0 16) long tt ∙ pick_l_whole 0 b 16 long

pub returns : goal.returns
returns c zero h = once c.args.b c.fits-b.0
returns c (suc zero) h = once c.args.b c.fits-b.0
returns c (suc (suc i)) h = absurd (omega (arith, h))
