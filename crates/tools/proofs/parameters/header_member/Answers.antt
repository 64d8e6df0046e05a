use Rattle.std.proofs.Common.{option_map, sym, ap, ◌∙◌}
use Rattle.serde_json.specs.Find.{get_member}
use Rattle.serde_json.specs.View.{view}
use Rattle.serde_json.proofs.Views.{view_of_ref, view-lookup}
use Rattle.objects.specs.Code.Views.{part_view}
use Rattle.tools.proofs.parameters.header_member.Goals as goal

pub returns : goal.returns
returns c =
    view_of_ref c.get.result
    ∙ ap (option_map view) c.get.ensures.value
    ∙ view-lookup c.args.name.now c.in_ok-header.field-0.now.entries
    ∙ ap (λ header. get_member c.args.name.now (part_view header)) (sym c.in_ok-header.was)
