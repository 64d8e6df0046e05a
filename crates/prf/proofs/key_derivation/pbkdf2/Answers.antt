use Rattle.std.proofs.Common.{◌≡◌, ◌+◌, ◌*◌, ◌≤◌, ◌++◌, length, take, map, sym, ap, ◌∙◌, arith}
use Rattle.std.proofs.Math.Nat.{mul-le-mul_right}
use Rattle.std.proofs.lemmas.Grind.{div_ceil_times}
use Rattle.std.proofs.lemmas.Slice.{take-put_mid}
use Rattle.std.specs.List.{concat}
use Rattle.prf.specs.Pbkdf2.{derived_block}
use Rattle.prf.proofs.Iterates.{blocks-more, key_of_blocks}
use Rattle.prf.proofs.key_derivation.pbkdf2.Goals as goal

pub loop-i-preserved : goal.loop-i-preserved
loop-i-preserved g c =
    let f = g.H.Hash.function in
    let salt = concat (map (λ part. part.now) c.args.salt) in
    let t = derived_block f c.args.password.now salt c.args.count in
    let i = c.loop-i.i in
    let len = c.output_len-len.result in
    let block = c.derive_block.ensures c.args.password.now c.new-keyed.ensures in
    let few = div_ceil_times (length c.args.out.now) len (omega (arith, g.met.H.Hash.is_hash_function.some_output, c.output_len-len.ensures)) in
    let below : (i + 1) * len ≤ c.div_ceil-block_count.result * len = mul-le-mul_right len (omega arith) in
    let fits : (i + 1) * len ≤ 128 = omega (
      arith,
      few.1,
      ap (λ n. n * len) c.div_ceil-block_count.ensures,
      below,
      g.met.H.Hash.is_hash_function.output_fits,
      c.output_len-len.ensures,
    ) in
    let whole : length c.derive_block.new.block ≡ len = omega arith in
    let room : i * len ≤ length c.loop-i.derived = omega (arith, fits) in
    take-put_mid (i * len) _ c.loop-i.derived c.derive_block.new.block ((i + 1) * len) (omega (arith, whole)) room
    ∙ ap (λ l. take (i * len) c.loop-i.derived ++ l) block ∙ ap (λ l. l ++ t (i + 1)) c.loop-i.invariant ∙ sym (blocks-more t i)

pub returns-clause-key : goal.returns-clause-key
returns-clause-key g c =
    let f = g.H.Hash.function in
    let salt = concat (map (λ part. part.now) c.args.salt) in
    c.copy_from_slice.ensures.after
    ∙ key_of_blocks f c.args.password.now salt c.args.count (length c.args.out.now) c.output_len-len.result c.loop-i.i c.loop-i.derived
    c.output_len-len.ensures g.met.H.Hash.is_hash_function.some_output (omega arith) c.loop-i.invariant
