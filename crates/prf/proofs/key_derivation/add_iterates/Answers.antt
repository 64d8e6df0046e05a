use Rattle.std.proofs.Common.{[], length, take, sym, ap, ◌∙◌, arith}
use Rattle.std.proofs.lemmas.List.{take_at}
use Rattle.octets.specs.Octets.{xor_octets}
use Rattle.prf.specs.Hmac.{hmac}
use Rattle.prf.specs.Pbkdf2.{derived_block}
use Rattle.prf.proofs.Iterates.{iterate-more, derived_block-one, derived_block-more}
use Rattle.prf.proofs.key_derivation.add_iterates.Goals as goal

pub iterates-init : goal.iterates-init
iterates-init g c password salt i fed first = (
  take_at c.copy_from_slice.new.self _ (length c.args.block.now) (ap length c.copy_from_slice.ensures.after) ∙ c.copy_from_slice.ensures.after ∙ first,
  first ∙ sym (derived_block-one g.H.Hash.function password salt i),
)

pub iterates-preserved : goal.iterates-preserved
iterates-preserved g c password salt i fed first =
    let f = g.H.Hash.function in
    let before = c.iterates.invariant password salt i fed first in
    let sum = derived_block f password salt c.iterates.j i in
    let next = take (length c.args.block.now) c.finish.new.out in
    let code = c.finish.ensures.code password _ (c.update.ensures password [] (c.fork-mac.ensures password [] fed)) in
    let len = ap (λ n. take n c.finish.new.out) (c.requires.fits ∙ sym c.finish.ensures.len) in
    let is_next = len ∙ code ∙ ap (hmac f password) before.0 ∙ sym (iterate-more f password salt i c.iterates.j) in (
      is_next,
      c.xor_into.ensures ∙ ap (λ b. xor_octets b next) before.1 ∙ ap (xor_octets sum) is_next ∙ derived_block-more f password salt i c.iterates.j (omega arith),
    )
