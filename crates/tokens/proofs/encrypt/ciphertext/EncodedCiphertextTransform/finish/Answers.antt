use Rattle.std.proofs.Common.{◌+◌, ◌++◌, take, Ok, ap, sym, ◌∙◌, arith}
use Rattle.std.proofs.lemmas.Grind.{common_steps}
use Rattle.std.proofs.lemmas.Slice.{take-put_mid}
use Rattle.octets.specs.Encoding.{encoding}
use Rattle.tokens.specs.Code.SealedTexts.{sealed_plan}
use Rattle.tokens.proofs.Encrypting.Sealing.{text_ends}
use Rattle.tokens.proofs.encrypt.ciphertext.EncodedCiphertextTransform.finish.Goals as goal

pub returns-clause-text : goal.returns-clause-text
returns-clause-text g c s p fed octets =
    let last = take c.end-len.result.0 c.end-len.new.last in
    let end = take c.finish-end_len.result c.finish-end_len.new.out in
    let len = c.feed-len.result in
    let parts = take-put_mid len _ c.feed-len.new.out c.copy_from_slice.new.self (len + c.finish-end_len.result) (grind (arith, common_steps))
    (grind (arith, common_steps)) in
    let ends = c.copy_from_slice.ensures.after in
    text_ends s p last (take len c.feed-len.new.out) end fed.0.short (c.end-len.ensures.ciphertext s p fed.0.holds) (c.feed-len.ensures.text (s.fixed p) fed.1)
    (c.finish-end_len.ensures.text (s.fixed p ++ last) (c.feed-len.ensures.waits (s.fixed p) fed.1))
    ∙ ap (λ t. Ok ((sealed_plan encoding s).fixed p ++ t)) (sym (parts ∙ ap (λ t. take len c.feed-len.new.out ++ t) ends))
