use Rattle.std.proofs.Common.{◌<◌, ◌^◌, ap, ◌∙◌, arith}
use Rattle.modes.specs.Code.Shifts.{shifts}
use Rattle.modes.proofs.Reduction.{reduced_is}
use Rattle.modes.proofs.unreduced.Unreduced.reduced.Goals as goal

pub returns : goal.returns
returns c =
    let small : c.self.inside.low < 2 ^ 128 = omega arith in
    reduced_is c.polynomial_laws.ensures c.self.inside.high c.self.inside.low small
    ∙ ap (λ v. shifts v 128) c.self.view_is
