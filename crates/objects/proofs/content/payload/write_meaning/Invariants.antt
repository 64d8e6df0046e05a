use Rattle.std.proofs.Common.{◌≡◌, ◌++◌}
use Rattle.std.specs.Slice.Iter.{chunks_rest, chunks_size}
use Rattle.octets.specs.Code.Streams.{settled}
use Rattle.octets.specs.Encoding.{octets_of_groups}
use Rattle.objects.proofs.ReceivedTexts.{IsReadTo}
use Rattle.objects.proofs.content.payload.write_meaning.Given as goal

abbrev pub invariant-loop-piece : goal.invariant-loop-piece
invariant-loop-piece g l =
    let output = g.O.Output in
    (chunks_size l.piece-iterator ≡ 4096)
    × ((read : IsReadTo l.reader l.text.text.now (chunks_rest l.piece-iterator))
    × ((output.written l.out ≡ output.written l.initial.out ++ octets_of_groups (settled read.front))
    × ((output.failures l.out ≡ output.failures l.initial.out) × (output.endings l.out ≡ output.endings l.initial.out))))
