use Rattle.std.proofs.Common.{[], refl, subst}
use Rattle.modes.specs.Cbc.{cbc_blocks}
use Rattle.modes.specs.Code.Views.{HoldsCbc}
use Rattle.ciphers.proofs.Openings.{under_halves}
use Rattle.ciphers.proofs.Sealers.{pace_of_whole}
use Rattle.ciphers.proofs.cbc_hmac.CbcHmac.start.Goals as goal

pub returns : goal.returns
unfolding cbc_blocks
returns g c = λ s is.
    let e = g.B.Block.encrypted c.under.result in
    let halves = under_halves e g.H.Hash.function g.B.Keyed.words c.args.cek.now c.split_at.result.0.now c.split_at.result.1.now c.args.iv.now c.args.aad.now s
    c.requires.cek_fits c.split_at.ensures.front c.split_at.ensures.back c.under.ensures is in
    record {
      e = e;
      mac_key = c.split_at.result.0.now;
      iv = c.args.iv.now;
      aad = c.args.aad.now;
      is_sealing = halves;
      cbc = subst (λ iv. HoldsCbc g.B.Block.encrypted c.start.result e iv []) c.array.ensures c.start.ensures;
      authentication = c.start-2.ensures;
      whole = refl;
      pace = pace_of_whole g.H.Hash.function s e c.split_at.result.0.now c.args.iv.now c.args.aad.now [] halves refl;
    }
