use Rattle.std.proofs.Common.{◌≡◌, codes, ◌∙◌}
use Rattle.objects.specs.Code.Views.{written_view}
use Rattle.objects.specs.Code.Writing.{opened, closed, separated}
use Rattle.objects.proofs.WrittenItems.{one_more_item}
use Rattle.objects.proofs.writer.TextWriter.items.Goals as goal

pub loop-item-preserved : goal.loop-item-preserved
loop-item-preserved g c =
    let written : written_view c.end.new.self ≡ closed (codes "}")
    (g.T.Listed.with_one (g.T.Listed.seen c.item-item.result) (opened (codes "{") (separated (written_view c.loop-item.self)))) =
    cc (c.in_ok-end.ensures.written, c.in_ok-write.ensures.written, c.in_ok-begin.ensures.written, c.in_ok-separate.ensures.written) in
    written
    ∙ one_more_item g.T.Listed.with_one g.T.Listed.seen c.args.items.now c.loop-item.item-index c.item-item.result (written_view c.args.self.now)
    (written_view c.loop-item.self)
    c.loop-item.invariant c.loop-item-test.true c.item-item.is
