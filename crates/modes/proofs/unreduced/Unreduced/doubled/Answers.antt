use Rattle.std.proofs.Common.{◌<◌, ◌*◌, ◌^◌, ap, sym, subst, ◌∙◌, arith}
use Rattle.modes.proofs.Halves.{doubled_is}
use Rattle.modes.proofs.unreduced.Unreduced.doubled.Goals as goal

pub returns : goal.returns
returns c =
    let low = c.self.inside.low in
    let high = c.self.inside.high in
    let small : low < 2 ^ 128 = omega arith in
    doubled_is high low small (subst (λ v. v < 2 ^ 255) (sym c.self.view_is) c.requires)
    ∙ ap (λ v. v * 2) c.self.view_is
