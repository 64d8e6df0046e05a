use Rattle.std.proofs.Common.{arith}
use Rattle.std.proofs.lemmas.Grind.{common_steps}
use Rattle.tokens.specs.Code.Trying.{salted_with}
use Rattle.tokens.proofs.Decrypting.Salted.{one_more}
use Rattle.tokens.proofs.decrypt.salted.salt_each.Goals as goal

pub loop-i-preserved : goal.loop-i-preserved
loop-i-preserved c =
    let k = c.loop-i.invariant in
    record {
      front = one_more (salted_with c.args.p2s.now) c.loop-i.keys.items c.args.keys.now.items c.loop-i.i c.index_mut.result.now c.salt.new.self
          (omega (arith, c.loop-i-test.true, c.len-i-end.ensures, k.long)) k.long k.front k.back c.index_mut.ensures.value c.salt.ensures;
      back = grind (arith, common_steps);
      long = grind (arith, common_steps);
    }
