use Rattle.std.proofs.Common.{◌++◌, ap, ◌∙◌, drop, arith}
use Rattle.std.proofs.lemmas.List.{take_all}
use Rattle.std.proofs.lemmas.Grind.{common_steps}
use Rattle.ciphers.proofs.key_wrap.step_back.Goals as goal

pub returns-clause-register : goal.returns-clause-register
returns-clause-register g c =
    c.copy_from_slice-2.ensures.after
    ∙ take_all 8 (drop 8 c.decrypt-b.result) (grind (arith, common_steps))
    ∙ ap (drop 8) (c.decrypt-b.ensures ∙ ap (g.B.Block.decrypted c.args.kek.now) (c.join.ensures ∙ ap (λ a. a ++ c.args.r.now) c.xor_count.ensures))
