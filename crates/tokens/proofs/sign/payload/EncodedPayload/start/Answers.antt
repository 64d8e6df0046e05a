use Rattle.std.proofs.Common.{sym, subst}
use Rattle.octets.specs.Code.Streams.{encoding_starts}
use Rattle.tokens.specs.Code.SigningInputs.{HoldEach}
use Rattle.tokens.proofs.sign.payload.EncodedPayload.start.Goals as goal

pub returns : goal.returns
returns g c starts h = (subst (HoldEach g.S.SigningInput.has_taken c.args.inputs.items starts) (sym encoding_starts) h, c.start.ensures)
