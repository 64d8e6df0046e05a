use Rattle.std.proofs.Common.{◌≡◌}
use Rattle.serde_json.specs.View.{members_view}
use Rattle.objects.specs.Headers.{overlap}
use Rattle.objects.specs.Code.Views.{part_view}
use Rattle.objects.proofs.header.parts_overlap.Given as goal

-- the names that are left overlap exactly if all names do
abbrev pub invariant-loop-name : goal.invariant-loop-name
invariant-loop-name l =
    overlap (members_view l.name-iterator) (part_view l.other) ≡ overlap (part_view l.part) (part_view l.other)
