use Rattle.std.proofs.Common.{◌++◌, ◌∷◌, [], map, take, drop, string_bytes, sym, ap, subst, ◌∙◌}
use Rattle.std.proofs.lemmas.List.{length-map}
use Rattle.octets.specs.Base64url.{base64url}
use Rattle.octets.specs.Devices.{AppendsPrefixOf}
use Rattle.octets.proofs.Lemmas.{AppendsPrefixOf-front, AppendsPrefixOf-part, at_refusal}
use Rattle.objects.specs.Code.Frames.{filled}
use Rattle.tokens.proofs.Beginnings.{AppendsPrefixOf-behind}
use Rattle.tokens.proofs.Signing.Payload.{first_and_others}
use Rattle.tokens.proofs.encrypt.ciphertext.TagValues.write.Goals as goal

pub returns-in_err-write_whole-clause-beginning : goal.returns-in_err-write_whole-clause-beginning
returns-in_err-write_whole-clause-beginning g c values given =
    rw given (
    let written = g.O.Output.written in
    let texts = c.args.texts.now in
    let are = first_and_others string_bytes texts c.index-texts-0.result 0 c.as_bytes.result.now
    (length-map texts string_bytes ∙ c.requires) c.index-texts-0.is c.as_bytes.ensures.value in
    at_refusal c.from_residual.result
    (subst (λ t. AppendsPrefixOf (filled t (base64url c.args.self ∷ [])) (written c.args.out.now) (written c.write_whole.new.out)) (sym are)
    (AppendsPrefixOf-front c.as_bytes.result.now _ _ _ (AppendsPrefixOf-part _ _ _ _ c.in_err-write_whole.ensures.part.1))))

pub returns-in_err-write_whole-2-clause-beginning : goal.returns-in_err-write_whole-2-clause-beginning
returns-in_err-write_whole-2-clause-beginning g c values given =
    rw given (
    let written = g.O.Output.written in
    let texts = c.args.texts.now in
    let tag = take c.encode_onto-len.result c.encode_onto-len.new.out in
    let is_tag = c.encode_onto-len.ensures.text ∙ ap base64url c.octets.ensures.all in
    let first = c.as_bytes.result.now in
    let others = map string_bytes (drop 1 texts) in
    let are = first_and_others string_bytes texts c.index-texts-0.result 0 first (length-map texts string_bytes ∙ c.requires) c.index-texts-0.is
    c.as_bytes.ensures.value in
    at_refusal c.from_residual-in_err-write_whole-2.result
    (subst (λ t. AppendsPrefixOf t (written c.args.out.now) (written c.write_whole-2.new.out))
    (ap (λ t. filled (first ∷ others) (t ∷ [])) is_tag ∙ sym (ap (λ t. filled t (base64url c.args.self ∷ [])) are))
    (AppendsPrefixOf-behind first (tag ++ filled others []) (written c.args.out.now) (written c.write_whole-2.new.out)
    (subst (λ l. AppendsPrefixOf (tag ++ filled others []) l (written c.write_whole-2.new.out)) c.in_ok-write_whole.ensures.all
    (AppendsPrefixOf-front tag (filled others []) _ _ (AppendsPrefixOf-part tag _ _ _ c.in_err-write_whole-2.ensures.part.1))))))
