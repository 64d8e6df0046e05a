use Rattle.std.proofs.Common.{List, ℕ, ◌++◌, ◌+◌, ◌≡◌, map, length, string_bytes}
use Rattle.objects.specs.Code.Frames.{filled}
use Rattle.tokens.specs.Code.SigningInputs.{InputStart, HoldEach, signature_text}
use Rattle.tokens.proofs.Signing.Signatures.{AreLeft}
use Rattle.tokens.proofs.sign.payload.VecValues.write.Given as goal

-- the text written so far and the texts and signatures that are left are the whole text
abbrev pub invariant-loop-input : goal.invariant-loop-input
invariant-loop-input g l =
    let has_taken = g.S.SigningInput.has_taken in
    let written = g.O.Output.written in record {
      left : (starts : List InputStart) (text : List ℕ) → HoldEach has_taken l.fn.self.items starts text
          → AreLeft has_taken l.input-iterator.a.rest.items (map string_bytes l.input-iterator.b.rest.now) text
          (filled (map string_bytes l.fn.texts) (map (signature_text text) starts)) (written l.fn.out) (written l.out);
      places : length l.input-iterator.b.rest.now ≡ 1 + length l.input-iterator.a.rest.items;
      count : l.input-iterator.a.rest.len ≡ length l.input-iterator.a.rest.items;
      front : (front : List _) × (l.fn.texts ≡ front ++ l.input-iterator.b.rest.now);
      wrote : g.O.Output.failures l.out ≡ g.O.Output.failures l.fn.out;
      endings : g.O.Output.endings l.out ≡ g.O.Output.endings l.fn.out;
    }
