use Rattle.std.proofs.Common.{◌≡◌, ◌++◌, length, length-append, ap, take, drop, ◌∙◌, arith}
use Rattle.std.proofs.Math.Seq.{drop-append_seam}
use Rattle.std.specs.List.{range_with_len}
use Rattle.std.proofs.lemmas.Simd.{pick_l_left, pick_l_whole, pick_l-range_with_len}
use Rattle.std.proofs.lemmas.List.{take_all}
use Rattle.aes.proofs.four_blocks.side_by_side.Goals as goal

pub returns-clause-first : goal.returns-clause-first
returns-clause-first c = pick_l_left 0 c.args.a c.args.b 16 (range_with_len 0 16) (omega arith) tt ∙ pick_l_whole 0 c.args.a 16 (omega arith)

pub returns-clause-second : goal.returns-clause-second
returns-clause-second c =
    let both = c.args.a ++ c.args.b in
    let sixteen : 16 ≡ length c.args.a = omega arith in
    pick_l-range_with_len 0 both 16 16 (omega (arith, length-append c.args.a c.args.b)) ∙ ap (take 16) (ap (λ n. drop n both) sixteen ∙ drop-append_seam c.args.a c.args.b) ∙ take_all 16 c.args.b (omega arith)
