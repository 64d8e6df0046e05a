use Rattle.std.proofs.Common.{◌∙◌, length, arith}
use Rattle.std.proofs.lemmas.Grind.{common_steps}
use Rattle.octets.proofs.Pieces.{take-filled}
use Rattle.octets.proofs.writer.join.Goals as goal

pub returns : goal.returns
returns c =
    take-filled (length c.args.front.now) _ (length c.args.back.now) _ c.copy_from_slice-2.new.self (grind (arith, common_steps)) (grind (arith, common_steps))
    (grind (arith, common_steps))
    ∙ grind (arith, common_steps)
