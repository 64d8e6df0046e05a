use Rattle.std.proofs.Common.{◌≡◌, ◌-◌, ◌%◌, ◌++◌, length, replicate, sym, ap, subst, ◌∙◌, arith, append-nil}
use Rattle.std.proofs.lemmas.List.{take-replicate}
use Rattle.modes.specs.Ghash.{zero_filled}
use Rattle.modes.specs.Code.Views.{HoldsGhash}
use Rattle.modes.proofs.Pieces.{length-waits}
use Rattle.modes.proofs.ghash.Ghash.pad.Goals as goal

pub returns-then-space-lt16 : goal.returns-then-space-lt16
unfolding zero_filled
returns-then-space-lt16 c h x f =
    let n = c.space-space.result in
    let missing : n ≡ (16 - length x % 16) % 16 =
    omega (arith, c.space-space.ensures.space, length-waits x c.args.self.now.waiting f.waiting, c.if-space-lt16.true) in
    subst (λ t. HoldsGhash c.feed.new.self h (x ++ t)) (take-replicate n 16 0 (omega (arith, c.space-space.ensures.space)) ∙ ap (λ k. replicate k 0) missing)
    (c.feed.ensures h x f)

pub returns-else-space-lt16 : goal.returns-else-space-lt16
unfolding zero_filled
returns-else-space-lt16 c h x f =
    let none : (16 - length x % 16) % 16 ≡ 0 =
    omega (arith, c.space-space.ensures.space, length-waits x c.args.self.now.waiting f.waiting, c.if-space-lt16.false) in
    subst (HoldsGhash c.args.self.now h) (sym (ap (λ n. x ++ replicate n 0) none ∙ append-nil x)) f
