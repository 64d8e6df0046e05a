use Rattle.std.proofs.Common.{drop}
use Rattle.jose.specs.System.{IsApart, IsNotApart, places}
use Rattle.jose.proofs.apart.is_one_of.Given as goal

-- if the output is apart from the files that are left, or may be one of them, this is also true of all files
abbrev pub invariant-loop-other : goal.invariant-loop-other
invariant-loop-other g l =
    let gives = g.R.WriteFiles.status_gives l.files in
    let others = places l.others in
    record {
      apart : IsApart gives l.own (drop l.other-index others) → IsApart gives l.own others;
      one : IsNotApart gives l.own (drop l.other-index others) → IsNotApart gives l.own others;
    }
