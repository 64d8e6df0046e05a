use Rattle.std.proofs.Common.{◌∙◌, arith}
use Rattle.std.proofs.lemmas.Grind.{common_steps}
use Rattle.modes.proofs.Counting.{counted_up}
use Rattle.modes.proofs.ctr.KeyStream.count_up.Goals as goal

pub returns-clause-counter : goal.returns-clause-counter
returns-clause-counter c =
    counted_up c.args.self.now.counter c.copy_from_slice.new.self c.copy_from_slice-2.new.self c.from_be_bytes-next.result
    (grind (arith, common_steps)) c.copy_from_slice.ensures.after c.from_be_bytes-next.ensures
    (c.copy_from_slice-2.ensures.after ∙ c.to_be_bytes.ensures)
