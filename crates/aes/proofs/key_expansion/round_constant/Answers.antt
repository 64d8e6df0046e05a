use Rattle.std.proofs.Common.{◌≡◌, ◌+◌, ◌-◌, suc, refl, ap, ◌∙◌, arith}
use Rattle.aes.specs.Octet.{octet_product}
use Rattle.aes.specs.KeyExpansion.{power_of_x}
use Rattle.aes.proofs.key_expansion.round_constant.Goals as goal

pub loop-i-init : goal.loop-i-init
unfolding power_of_x
loop-i-init c = refl

pub loop-i-preserved : goal.loop-i-preserved
unfolding power_of_x
loop-i-preserved c =
    c.multiply_by_x-power.ensures
    ∙ ap (octet_product 2) c.loop-i.invariant
    ∙ ap power_of_x (let e : suc (c.loop-i._i - 1) ≡ c.loop-i._i + 1 - 1 = omega arith in e)

pub returns : goal.returns
returns c = c.loop-i.invariant ∙ ap (λ i. power_of_x (i - 1)) (let e : c.loop-i._i ≡ c.args.j = omega arith in e)
