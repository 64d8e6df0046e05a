use Rattle.std.proofs.Common.{◌≡◌, List, [], length}
use Rattle.std.specs.Iterator.{IsFinite, size}
use Rattle.octets.specs.Base64url.{base64url, whole_groups}
use Rattle.octets.specs.Code.Streams.{part_group, Extends}
use Rattle.octets.specs.Devices.{appended}
use Rattle.tokens.specs.Code.SigningInputs.{InputStart, HoldEach}
use Rattle.tokens.proofs.signing_input.take_content.Given as goal

-- each input has absorbed the text of the whole groups that were read, and the octets after them are waiting
abbrev pub invariant-pieces : goal.invariant-pieces
invariant-pieces g l =
    let input = g.I.Input in
    let has_taken = g.S.SigningInput.has_taken in record {
      extends : Extends (input.consumed l.fn.content) (input.consumed l.content);
      taken : (starts : List InputStart) → HoldEach has_taken l.fn.inputs starts []
          → HoldEach has_taken l.inputs starts (base64url (whole_groups (appended (input.consumed l.fn.content) (input.consumed l.content))));
      waits : l.writer ≡ part_group (appended (input.consumed l.fn.content) (input.consumed l.content));
      len : length l.inputs ≡ length l.fn.inputs;
      source : input.source l.content ≡ input.source l.fn.content;
      read : input.failures l.content ≡ input.failures l.fn.content;
      finite : IsFinite (input.remaining l.content);
    }

abbrev pub decreases-pieces : goal.decreases-pieces
decreases-pieces g l = size (g.I.Input.remaining l.content)
