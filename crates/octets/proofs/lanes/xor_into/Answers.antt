use Rattle.std.proofs.Common.{◌≡◌, ◌*◌, ◌+◌, ◌/◌, ℕ, List, [], length, get_or, bit_xor, sym, ap, ◌∙◌, arith}
use Rattle.std.specs.Simd.Lanes.{zip2, put_chunk, chunk}
use Rattle.octets.proofs.Sums.{sum_block, sum_octet, sum_whole, chunk_at}
use Rattle.octets.proofs.lanes.xor_into.Goals as goal

pub loop-i-preserved : goal.loop-i-preserved
loop-i-preserved c =
    let f = c.args.other.now in
    let i = c.loop-i.i in
    let into = c.loop-i.octets in
    let block : get_or c.as_chunks.result.0.now i [] ≡ chunk (32 * i) 32 f =
    ap (λ (l : List (List ℕ)). get_or l i []) c.as_chunks.ensures.front ∙ chunk_at 32 (length f / 32) i f [] (omega (arith, c.as_chunks.ensures.front_len)) in
    c.xor_block.ensures ∙ ap (λ y. put_chunk (32 * i) into (zip2 bit_xor (chunk (32 * i) 32 into) y)) block
    ∙ sum_block into c.args.octets.now f 32 (32 * i) (32 * (i + 1)) (sym c.requires) (omega arith)
    (omega (arith, c.as_chunks.ensures.front_len)) c.loop-i.auto.octets c.loop-i.invariant

pub loop-i-2-preserved : goal.loop-i-2-preserved
loop-i-2-preserved c = sum_octet c.loop-i-2.octets c.args.octets.now c.args.other.now c.loop-i-2.i (sym c.requires) (omega arith) c.loop-i-2.invariant

pub returns : goal.returns
returns c = sum_whole c.loop-i-2.octets c.args.octets.now c.args.other.now c.loop-i-2.i (sym c.requires) (omega (arith, sym c.requires)) c.loop-i-2.invariant
