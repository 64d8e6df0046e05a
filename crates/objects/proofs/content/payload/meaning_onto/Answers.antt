use Rattle.std.proofs.Common.{◌≡◌, Ok, IsOk, refl, sym, subst, ap, ◌∙◌}
use Rattle.octets.specs.Base64url.{decoded}
use Rattle.octets.proofs.Lemmas.{meaning_of_text}
use Rattle.objects.specs.Code.Meaning.{meaning}
use Rattle.objects.proofs.content.payload.meaning_onto.Goals as goal

pub b64_decode_onto-requires-clause-text : goal.b64_decode_onto-requires-clause-text
b64_decode_onto-requires-clause-text c =
    let text = c.args.text.now in
    let decodes : decoded text.text.now ≡ Ok (meaning text.text.now) = ap decoded text.is_text ∙ meaning_of_text (meaning text.text.now) text.is_octets in
    subst IsOk (sym decodes) refl
