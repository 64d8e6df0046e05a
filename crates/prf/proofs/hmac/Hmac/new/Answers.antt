use Rattle.std.proofs.Common.{sym, ap, ◌∙◌, subst, append-nil}
use Rattle.prf.specs.Hmac.{xor_each}
use Rattle.prf.proofs.hmac.Hmac.new.Goals as goal

pub returns : goal.returns
returns g c =
    let holds = g.H.Hash.holds in record {
      inner = subst (holds c.padded_state.result) (ap (xor_each 0x36) c.new-block.ensures ∙ sym (append-nil _)) c.padded_state.ensures;
      outer = subst (holds c.padded_state-2.result) (ap (xor_each 0x5c) c.new-block.ensures) c.padded_state-2.ensures;
    }
