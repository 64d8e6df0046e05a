use Rattle.std.proofs.Common.{None, inl, inr, option_map}
use Rattle.jose.specs.System.{place_view}
use Rattle.jose.proofs.Mapped.{mapped-at}
use Rattle.jose.proofs.apart.is_one_of.Goals as goal

pub returns-then-may_be_one-clause-one : goal.returns-then-may_be_one-clause-one
returns-then-may_be_one-clause-one g c = λ is_one.
    c.loop-other.invariant.one
    (rw (mapped-at (option_map place_view) c.args.others.now c.loop-other.other-index None c.loop-other-test.true) (inl (c.if-may_be_one.ensures)))

pub loop-other-preserved : goal.loop-other-preserved
loop-other-preserved g c = record {
  apart = λ rest.
      c.loop-other.invariant.apart
      (rw (mapped-at (option_map place_view) c.args.others.now c.loop-other.other-index None c.loop-other-test.true) (c.if-may_be_one.ensures, rest));
  one = λ rest.
      c.loop-other.invariant.one (rw (mapped-at (option_map place_view) c.args.others.now c.loop-other.other-index None c.loop-other-test.true) (inr rest));
}
