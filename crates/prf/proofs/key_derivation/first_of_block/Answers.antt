use Rattle.std.proofs.Common.{◌≡◌, [], ◌++◌, length, map, sym, ap, ◌∙◌, rules}
use Rattle.std.specs.List.{concat}
use Rattle.prf.specs.Hmac.{hmac}
use Rattle.prf.proofs.Iterates.{both_parts, iterate-one}
use Rattle.prf.proofs.key_derivation.first_of_block.Goals as goal

pub returns-clause-first : goal.returns-clause-first
returns-clause-first g c password fed =
    let salt = concat (map (λ part. part.now) c.args.salt) in
    let two : length c.args.salt ≡ 2 = search rules in
    let fed_parts = c.update-2.ensures password _ (c.update.ensures password [] (c.fork-mac.ensures password [] fed)) in
    let code = c.finish.ensures.code password _ (c.update-3.ensures password _ fed_parts) in
    let text = ap (λ l. l ++ c.to_be_bytes.result) (sym (both_parts c.args.salt _ two)) ∙ ap (λ b. salt ++ b) c.to_be_bytes.ensures in
    code ∙ ap (hmac g.H.Hash.function password) text ∙ sym (iterate-one g.H.Hash.function password salt c.args.i)
