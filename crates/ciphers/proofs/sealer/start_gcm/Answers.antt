use Rattle.std.proofs.Common.{sym, ap, ◌∙◌}
use Rattle.ciphers.specs.Sealing.{gcm}
use Rattle.ciphers.proofs.Openings.{gcm_begins}
use Rattle.ciphers.proofs.sealer.start_gcm.Goals as goal

pub returns : goal.returns
returns g c = λ s is.
    gcm_begins g.B.Block.encrypted _ (g.B.Block.encrypted c.under.result) c.args.iv.now c.array.result c.args.aad.now s
    (is ∙ ap (λ e. gcm e c.args.iv.now c.args.aad.now) (sym c.under.ensures)) c.array.ensures c.start.ensures
