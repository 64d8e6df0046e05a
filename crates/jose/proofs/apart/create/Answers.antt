use Rattle.std.proofs.Common.{refl, inl, inr}
use Rattle.jose.proofs.apart.create.Goals as goal

pub returns-then-is_one_of : goal.returns-then-is_one_of
returns-then-is_one_of g c =
    inr (
      c.in_ok-uncut.uncut,
      (
        c.in_ok-uncut.ensures,
        inr (inl (c.in_ok-own.own, (c.in_ok-own.ensures, rw c.others.ensures at c.if-is_one_of.ensures.one refl, c.from.ensures))),
      ),
    )

pub returns : goal.returns
returns g c =
    inr (
      c.in_ok-uncut.uncut,
      (
        c.in_ok-uncut.ensures,
        inr (inr ((c.in_ok-own.own, (c.in_ok-own.ensures, rw c.others.ensures at c.if-is_one_of.ensures.apart refl)), c.cut.ensures)),
      ),
    )
