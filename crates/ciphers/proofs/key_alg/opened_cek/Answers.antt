use Rattle.std.proofs.Common.{[], take, sym, arith}
use Rattle.modes.specs.Code.Opening.{IsGcmOpening}
use Rattle.ciphers.proofs.Deliveries.{same_opening, opening_long}
use Rattle.ciphers.proofs.key_alg.opened_cek.Goals as goal

pub returns-then-encrypted_key-len-clause-nothing : goal.returns-then-encrypted_key-len-clause-nothing
returns-then-encrypted_key-len-clause-nothing g c cek fits twelve o =
    let long = opening_long (g.B.Block.encrypted c.args.kek.now) c.args.iv.now c.args.encrypted_key.now c.args.tag.now cek o in
    c.if-encrypted_key-len.true (omega (arith, long, fits, c.cek_len-len.ensures))

pub returns-clause-delivers : goal.returns-clause-delivers
returns-clause-delivers g c =
    let e = g.B.Block.encrypted c.args.kek.now in
    let o : IsGcmOpening e c.args.iv.now [] c.args.encrypted_key.now c.args.tag.now c.new.result =
    same_opening e c.array.result c.args.iv.now c.copy_from_slice.new.self c.args.encrypted_key.now c.args.tag.now
    (take c.in_ok-n.n c.gcm_open.new.buf) c.new.result
    c.array.ensures c.copy_from_slice.ensures.after (sym c.new.ensures) c.in_ok-n.ensures.opened.1 in
    let long = opening_long e c.args.iv.now c.args.encrypted_key.now c.args.tag.now c.new.result o in
    (omega (arith, long, c.if-encrypted_key-len.false, c.cek_len-len.ensures), c.if-iv-ne12.false, o)
