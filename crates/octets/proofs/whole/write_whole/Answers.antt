use Rattle.std.proofs.Common.{arith, ◌∙◌}
use Rattle.std.proofs.lemmas.Grind.{common_steps}
use Rattle.octets.proofs.Pieces.{taken_more}
use Rattle.octets.proofs.whole.write_whole.Goals as goal

pub writes-preserved : goal.writes-preserved
writes-preserved g c = record {
  in_range = grind (arith, c.in-Ok.ensures.does.octets);
  written = taken_more (g.O.Output.written c.args.out.now) (g.O.Output.written c.writes.out) _ c.args.octets.now c.writes.written c.in-Ok.n
      c.writes.invariant.written (grind (arith, common_steps, c.in-Ok.ensures.does.octets));
  works = c.in-Ok.ensures.does.works ∙ c.writes.invariant.works;
  endings = c.write.ensures.does.endings ∙ c.writes.invariant.endings;
  untouched = λ none. absurd (omega (arith, none));
}
