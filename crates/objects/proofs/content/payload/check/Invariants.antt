use Rattle.std.proofs.Common.{◌≡◌}
use Rattle.std.specs.Slice.Iter.{chunks_rest, chunks_size}
use Rattle.objects.proofs.ReceivedTexts.{IsReadTo}
use Rattle.objects.proofs.content.payload.check.Given as goal

abbrev pub invariant-loop-piece : goal.invariant-loop-piece
invariant-loop-piece l = (chunks_size l.piece-iterator ≡ 4096) × IsReadTo l.reader l.text (chunks_rest l.piece-iterator)
