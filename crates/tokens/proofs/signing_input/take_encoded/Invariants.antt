use Rattle.std.proofs.Common.{◌≡◌, List, ℕ}
use Rattle.std.specs.Slice.Iter.{chunks_rest, chunks_size}
use Rattle.prf.specs.HashFunction.{HashFunction}
use Rattle.tokens.proofs.SigningInputs.Encoded.{IsEncoded}
use Rattle.tokens.proofs.signing_input.take_encoded.Given as goal

abbrev pub invariant-loop-piece : goal.invariant-loop-piece
invariant-loop-piece g l =
    (chunks_size l.piece-iterator ≡ 4096)
    × IsEncoded {K = HashFunction × List ℕ} (λ x k text. g.S.SigningInput.has_taken x k.0 k.1 text) l.initial.input l.input l.writer l.octets
    (chunks_rest l.piece-iterator)
