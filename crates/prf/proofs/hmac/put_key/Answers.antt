use Rattle.std.proofs.Common.{◌≡◌, ◌++◌, [], take, drop, length, ap, ◌∙◌, arith}
use Rattle.prf.proofs.Blocks.{block_of_long, block_of_short}
use Rattle.prf.proofs.hmac.put_key.Goals as goal

pub returns-then-key-block_len : goal.returns-then-key-block_len
returns-then-key-block_len g c =
    let key = c.args.key.now in
    let f = g.H.Hash.function in
    let lengths = g.met.H.Hash.is_hash_function in
    let digest : take c.finish-len.result c.finish-len.new.out ≡ f.digest key = c.finish-len.ensures.digest key (c.update.ensures [] c.start-state.ensures) in
    let put : c.put_front.new.block ≡ f.digest key ++ drop (length (f.digest key)) c.args.block.now = c.put_front.ensures
    ∙ ap (λ d. d ++ drop (length d) c.args.block.now) digest in
    block_of_long f key c.args.block.now c.put_front.new.block c.block_len.result c.block_len.ensures c.if-key-block_len.true
    lengths.block_fits (omega (arith, lengths.digests key, lengths.output_fits_block)) c.requires put

pub returns-else-key-block_len : goal.returns-else-key-block_len
returns-else-key-block_len g c =
    block_of_short g.H.Hash.function c.args.key.now c.args.block.now c.put_front-else-key-block_len.new.block c.block_len.result c.block_len.ensures
    c.if-key-block_len.false
    g.met.H.Hash.is_hash_function.block_fits c.requires c.put_front-else-key-block_len.ensures
