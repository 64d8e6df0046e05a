use Rattle.std.proofs.Common.{length, ◌∙◌}
use Rattle.octets.specs.Base64url.{decoded}
use Rattle.octets.proofs.DecodedOnto.{decodes, decodes_onto}
use Rattle.octets.proofs.base64url.b64_decode_onto.Goals as goal

pub unreachable-requires : goal.unreachable-requires
unreachable-requires c =
    let text = c.args.text.now in
    let onto = decodes_onto text _ (length c.args.out.now) c.are_octets.ensures (decodes (decoded text) c.requires.text) c.requires.room in
    cc (c.decode_slice.ensures.value ∙ onto.0)

pub returns : goal.returns
returns c =
    let text = c.args.text.now in
    let onto = decodes_onto text _ (length c.args.out.now) c.are_octets.ensures (decodes (decoded text) c.requires.text) c.requires.room in
    rw (← onto.1) c.in-Ok.ensures.written
