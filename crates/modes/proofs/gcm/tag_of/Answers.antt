use Rattle.std.proofs.Common.{◌++◌, ap, ◌∙◌}
use Rattle.octets.specs.Octets.{xor_octets}
use Rattle.modes.specs.Ghash.{zero_filled, ghash}
use Rattle.modes.proofs.Protecting.{lengths_behind}
use Rattle.modes.proofs.gcm.tag_of.Goals as goal

pub returns : goal.returns
returns c h x k =
    let a = c.args.aad_bits.now in
    let b = c.args.ciphertext_bits.now in
    let fed = c.feed-2.ensures h (zero_filled x ++ a) (c.feed.ensures h (zero_filled x) (c.pad.ensures h x k)) in
    c.xor_into.ensures
    ∙ ap (λ t. xor_octets t c.args.tag_mask.now) (c.finish-tag.ensures h ((zero_filled x ++ a) ++ b) fed
    ∙ ap (ghash h) (lengths_behind x a b c.told-aad_bits c.told-ciphertext_bits))
