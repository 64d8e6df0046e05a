use Rattle.std.proofs.Common.{length, ap, arith}
use Rattle.octets.proofs.Lemmas.{length-base64url}
use Rattle.objects.specs.Code.Meaning.{meaning}
use Rattle.objects.proofs.content.payload.meaning_len.Goals as goal

pub returns : goal.returns
returns c =
    let text = c.args.text.now in
    let whole = ap length text.is_text in
    let long = length-base64url (meaning text.text.now) in
    omega arith
