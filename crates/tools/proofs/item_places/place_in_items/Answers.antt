use Rattle.std.proofs.Common.{◌≡◌, ◌∙◌, ◌+◌, ◌++◌, Some, None, drop, option_map, ap, sym}
use Rattle.std.specs.Option.{option_or}
use Rattle.serde_json.specs.View.{items_view, view}
use Rattle.tools.specs.ItemPlaces.{each_item_places, item_name, item_places, item_text}
use Rattle.tools.specs.PlaceViews.{kind_view}
use Rattle.tools.specs.Places.{first_so}
use Rattle.tools.proofs.Places.{is_none, next_item, none_are_left}
use Rattle.tools.proofs.item_places.place_in_items.Goals as goal

pub returns-in-Some : goal.returns-in-Some
returns-in-Some c =
    let kind = kind_view c.args.kind.now in
    let items = c.args.items.now in
    let i = c.loop-i.i in
    let item = c.index-items-i.result in
    let rest = first_so c.args.so (each_item_places kind (i + 1 + 1) (items_view (drop (i + 1) items))) in
    let first = first_so c.args.so (item_places kind (view item)) in
    let found : first ≡ Some c.in-Some.name.now = sym c.in_ok-name.ensures ∙ ap (option_map (λ name. name.now)) c.in-Some.is in
    ap Some (c.in_item.ensures ∙ ap (λ name. c.in-Some.name.now ++ item_text name (i + 1)) c.item_name.ensures)
    ∙ ap (λ here. option_or (option_map (λ text. text ++ item_text (item_name kind) (i + 1)) here) rest) (sym found)
    ∙ sym (next_item c.args.so kind (i + 1) items i item c.loop-i-test.true c.index-items-i.is) ∙ c.loop-i.invariant

pub loop-i-preserved : goal.loop-i-preserved
loop-i-preserved c =
    let kind = kind_view c.args.kind.now in
    let items = c.args.items.now in
    let i = c.loop-i.i in
    let item = c.index-items-i.result in
    let rest = first_so c.args.so (each_item_places kind (i + 1 + 1) (items_view (drop (i + 1) items))) in
    let first = first_so c.args.so (item_places kind (view item)) in
    let found : first ≡ None = sym c.in_ok-name.ensures ∙ ap (option_map (λ name. name.now)) (is_none c.in_ok-name.field-0 c.in_default.not-Some) in
    ap (λ here. option_or (option_map (λ text. text ++ item_text (item_name kind) (i + 1)) here) rest) (sym found)
    ∙ sym (next_item c.args.so kind (i + 1) items i item c.loop-i-test.true c.index-items-i.is) ∙ c.loop-i.invariant

pub returns : goal.returns
returns c = none_are_left c.args.so (kind_view c.args.kind.now) (c.loop-i.i + 1) c.args.items.now c.loop-i.i c.loop-i-test.false ∙ c.loop-i.invariant
