use Rattle.std.proofs.Common.{◌++◌, take, replicate, sym, ap, subst, ◌∙◌, arith, append_assoc, length-append}
use Rattle.modes.specs.Ctr.{counter_block}
use Rattle.modes.specs.Gcm.{pre_counter_block, gcm_ciphertext}
use Rattle.modes.specs.Ghash.{zero_filled}
use Rattle.modes.specs.Code.Views.{HoldsGhash}
use Rattle.modes.proofs.gcm.Gcm.feed.Goals as goal

pub returns-clause-fed : goal.returns-clause-fed
unfolding gcm_ciphertext
returns-clause-fed g c e iv aad p k =
    let f = counter_block (pre_counter_block iv) 1 in
    let text = c.feed-n.ensures.text e f p k.ctr in
    record {
      ctr = c.feed-n.ensures.fed e f p k.ctr;
      hash = subst (HoldsGhash c.feed.new.self (e (replicate 16 0)))
          (append_assoc (zero_filled aad) (gcm_ciphertext e iv p) (take c.feed-n.result c.feed-n.new.out) ∙ ap (λ t. zero_filled aad ++ t) (sym text))
          (c.feed.ensures (e (replicate 16 0)) (zero_filled aad ++ gcm_ciphertext e iv p) k.hash);
      tag_mask = k.tag_mask;
      aad_bits = k.aad_bits;
      len = omega (arith, k.len, length-append p c.args.piece.now, c.saturating_add-len.ensures);
    }

pub returns-clause-text : goal.returns-clause-text
unfolding gcm_ciphertext
returns-clause-text g c e iv aad p k = c.feed-n.ensures.text e (counter_block (pre_counter_block iv) 1) p k.ctr
