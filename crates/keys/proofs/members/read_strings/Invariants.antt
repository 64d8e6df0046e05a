use Rattle.std.proofs.Common.{◌≡◌, drop}
use Rattle.serde_json.specs.View.{items_view}
use Rattle.keys.specs.Members.{strings_of}
use Rattle.keys.proofs.Strings.{texts_with}
use Rattle.keys.proofs.members.read_strings.Given as goal

-- the texts so far and those of the items that are left are all texts
abbrev pub invariant-loop-item : goal.invariant-loop-item
invariant-loop-item l = strings_of (items_view l.item-items) ≡ texts_with l.texts.items (drop l.item-index l.item-items)
