use Rattle.std.proofs.Common.{◌≡◌, map, take}
use Rattle.objects.specs.Code.Views.{written_view}
use Rattle.objects.specs.Code.Writing.{with_items}
use Rattle.objects.proofs.writer.TextWriter.items.Given as goal

-- the items so far are written
abbrev pub invariant-loop-item : goal.invariant-loop-item
invariant-loop-item g l = written_view l.self ≡ with_items g.T.Listed.with_one (map g.T.Listed.seen (take l.item-index l.items)) (written_view l.fn.self)
