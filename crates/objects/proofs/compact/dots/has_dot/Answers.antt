use Rattle.std.proofs.Common.{nat_eq, nat_lt, not, w8, ap, ◌∙◌, arith}
use Rattle.std.proofs.lemmas.Simd.{bitmask_splat}
use Rattle.std.specs.List.{position_or_len}
use Rattle.objects.specs.Texts.{is_dot}
use Rattle.objects.proofs.FirstDots.{some_set}
use Rattle.objects.proofs.compact.dots.has_dot.Goals as goal

pub returns : goal.returns
returns c =
    let block = c.args.block.now in
    ap (λ mask. not (nat_eq mask 0)) (bitmask_splat w8 nat_eq block 32 46 c.told-block (omega arith)) ∙ some_set is_dot block
    ∙ ap (nat_lt (position_or_len is_dot block)) c.told-block
