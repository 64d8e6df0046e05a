use Rattle.std.proofs.Common.{◌≡◌, map, take, ap, ◌∙◌, arith}
use Rattle.std.proofs.lemmas.Grind.{common_steps}
use Rattle.serde_json.specs.Data.{string}
use Rattle.serde_json.specs.View.{items_of}
use Rattle.keys.proofs.KeyMembers.{strings_are_items}
use Rattle.keys.proofs.generating.string_list.Goals as goal

pub returns : goal.returns
returns c =
    let all : take c.loop-text.text-index c.args.texts.now ≡ c.args.texts.now = grind (arith, common_steps) in
    ap items_of c.loop-text.invariant ∙ ap (λ texts. items_of (map (λ t. string t.now) texts)) all ∙ strings_are_items c.args.texts.now
