use Rattle.std.proofs.Common.{◌≡◌, ◌+◌, drop}
use Rattle.serde_json.specs.View.{items_view}
use Rattle.tools.specs.ItemPlaces.{each_item_places}
use Rattle.tools.specs.PlaceViews.{kind_view}
use Rattle.tools.specs.Places.{first_so}
use Rattle.tools.proofs.item_places.place_in_items.Given as goal

-- the first place in the items that are left is the first in all
abbrev pub invariant-loop-i : goal.invariant-loop-i
invariant-loop-i l = first_so l.so (each_item_places (kind_view l.kind) (l.i + 1) (items_view (drop l.i l.items)))
    ≡ first_so l.so (each_item_places (kind_view l.kind) 1 (items_view l.items))
