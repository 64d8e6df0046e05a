use Rattle.std.proofs.Common.{[], subst, replicate}
use Rattle.modes.specs.Code.Views.{HoldsGhash}
use Rattle.modes.proofs.gcm.aad_hash.Goals as goal

pub returns : goal.returns
returns g c =
    let h = g.B.Block.encrypted c.args.cipher.now (replicate 16 0) in
    c.pad.ensures h c.args.aad.now (c.feed.ensures h [] (subst (λ k. HoldsGhash c.start-hash.result k []) c.encrypt.ensures c.start-hash.ensures))
