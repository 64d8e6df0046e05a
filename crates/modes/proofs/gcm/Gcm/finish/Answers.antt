use Rattle.std.proofs.Common.{◌*◌, ◌%◌, ◌^◌, ◌++◌, w64, replicate, sym, ap, ◌∙◌}
use Rattle.std.specs.Int.{to_be_bytes}
use Rattle.modes.specs.Gcm.{gcm_ciphertext}
use Rattle.modes.specs.Ghash.{zero_filled}
use Rattle.modes.proofs.Protecting.{length-gcm_ciphertext, tag_is}
use Rattle.modes.proofs.gcm.Gcm.finish.Goals as goal

pub returns : goal.returns
returns g c e iv aad p k =
    tag_is e iv aad (gcm_ciphertext e iv p) c.args.self.aad_bits c.bit_length.result c.args.self.tag_mask c.tag_of.result
    (c.tag_of.ensures (e (replicate 16 0)) (zero_filled aad ++ gcm_ciphertext e iv p) k.hash)
    k.aad_bits (c.bit_length.ensures ∙ ap (λ n. to_be_bytes w64 (n * 8 % 2 ^ 64)) (k.len ∙ sym (length-gcm_ciphertext e iv p))) k.tag_mask
