use Rattle.std.proofs.Common.{◌≡◌, ◌≤◌, length, []}
use Rattle.std.specs.Iterator.{IsFinite, size}
use Rattle.octets.specs.Devices.{appended}
use Rattle.octets.specs.Octets.{IsOctets}
use Rattle.octets.specs.Code.Streams.{behind, Extends}
use Rattle.octets.proofs.Streaming.{Due}
use Rattle.octets.proofs.transform.pump.Given as goal

-- everything that was read was fed, and everything that it fixes is on the output once the text before it is written
abbrev pub invariant-pieces : goal.invariant-pieces
invariant-pieces g l =
    let input = g.I.Input in
    let output = g.O.Output in
    let t = g.T.Transform in record {
      extends : Extends (input.consumed l.fn.content) (input.consumed l.content);
      octets : IsOctets (appended (input.consumed l.fn.content) (input.consumed l.content));
      due : (job : t.Job) → t.is_fed l.fn.transform job []
          → Due (behind l.fn.before (t.plan job)) (input.consumed l.fn.content) (input.consumed l.content) (output.written l.fn.out)
          (output.written l.out) l.front;
      fed : (job : t.Job) → t.is_fed l.fn.transform job [] → t.is_fed l.transform job (appended (input.consumed l.fn.content) (input.consumed l.content));
      front_written : (appended (input.consumed l.fn.content) (input.consumed l.content) ≡ [] → ⊥) → l.front ≡ [];
      unread : appended (input.consumed l.fn.content) (input.consumed l.content) ≡ [] → l.out ≡ l.fn.out;
      longer : Extends (output.written l.fn.out) (output.written l.out);
      grown : length (output.written l.fn.out) ≤ length (output.written l.out);
      untouched : output.written l.out ≡ output.written l.fn.out → l.out ≡ l.fn.out;
      source : input.source l.content ≡ input.source l.fn.content;
      read : input.failures l.content ≡ input.failures l.fn.content;
      wrote : output.failures l.out ≡ output.failures l.fn.out;
      endings : output.endings l.out ≡ output.endings l.fn.out;
      finite : IsFinite (input.remaining l.content);
    }

abbrev pub decreases-pieces : goal.decreases-pieces
decreases-pieces g l = size (g.I.Input.remaining l.content)
