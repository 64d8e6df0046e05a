use Rattle.std.proofs.Common.{◌≤◌, length, arith}
use Rattle.ciphers.proofs.Sealers.{gcm_fed}
use Rattle.ciphers.proofs.sealer.GcmSealer.feed.Goals as goal

pub returns-clause-fed : goal.returns-clause-fed
returns-clause-fed g c s p k =
    let room : length c.args.piece.now ≤ length c.feed.new.out = omega (arith, c.requires, c.feed.array_long) in
    gcm_fed g.B.Block.encrypted _ _ s p c.args.piece.now c.feed.new.out c.feed.result k room c.feed.ensures.len
    (c.feed.ensures.fed k.e k.iv k.aad p k.gcm) (c.feed.ensures.text k.e k.iv k.aad p k.gcm)
