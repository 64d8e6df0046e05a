use Rattle.std.proofs.Common.{◌≡◌, length, arith}
use Rattle.std.proofs.Math.Seq.{take-append_seam}
use Rattle.octets.specs.Base64url.{base64url}
use Rattle.octets.proofs.Groups.{length-base64url}
use Rattle.octets.proofs.writer.encode_onto.Goals as goal

pub returns-clause-text : goal.returns-clause-text
unfolding base64url
returns-clause-text c =
    let len : c.in-Ok.written ≡ length (base64url c.args.octets.now) = grind (arith, length-base64url c.args.octets.now) in
    rw (c.in-Ok.ensures.written, len) (take-append_seam _ _)
