use Rattle.std.proofs.Common.{[], replicate, refl, sym, subst, ◌∙◌, append-nil}
use Rattle.modes.specs.Ctr.{ctr}
use Rattle.modes.specs.Gcm.{gcm_ciphertext}
use Rattle.modes.specs.Ghash.{zero_filled}
use Rattle.modes.specs.Code.Views.{HoldsCtr, HoldsGhash}
use Rattle.modes.proofs.Protecting.{second_counter}
use Rattle.modes.proofs.gcm.Gcm.start.Goals as goal

pub returns : goal.returns
unfolding gcm_ciphertext ctr
returns g c =
    let e = g.B.Block.encrypted c.args.cipher in
    record {
      ctr = subst (λ f. HoldsCtr g.B.Block.encrypted c.start.result e f [])
          (c.counter_block.ensures ∙ sym (second_counter c.args.iv.now c.told-iv)) c.start.ensures;
      hash = subst (HoldsGhash c.aad_hash-hash.result (e (replicate 16 0))) (sym (append-nil (zero_filled c.args.aad.now))) c.aad_hash-hash.ensures;
      tag_mask = c.tag_mask-tag_mask.ensures;
      aad_bits = c.bit_length.ensures;
      len = refl;
    }
