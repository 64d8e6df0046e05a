use Rattle.std.proofs.Common.{rules, refl, sym, ◌∙◌, arith}
use Rattle.modes.proofs.Counting.{counter_block-none}
use Rattle.modes.proofs.ctr.KeyStream.start.Goals as goal

pub returns : goal.returns
returns c e = record {
  sixteen = c.told-first;
  whole = refl;
  counter = c.copy_from_slice.ensures.after ∙ sym (counter_block-none c.args.first.now c.told-first (λ i. search rules));
  blocks = λ i l. absurd (omega (arith, l));
}
