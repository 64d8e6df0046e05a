use Rattle.std.proofs.Common.{bit_xor, w64, ap, ◌∙◌}
use Rattle.std.specs.Int.{to_be_bytes}
use Rattle.ciphers.specs.KeyWrap.{xor_count}
use Rattle.ciphers.proofs.key_wrap.xor_count.Goals as goal

pub returns : goal.returns
unfolding xor_count
returns c = c.to_be_bytes.ensures ∙ ap (λ n. to_be_bytes w64 (bit_xor n c.args.t)) c.from_be_bytes.ensures
