use Rattle.std.proofs.Common.{option_map, sym, ap, ◌∙◌}
use Rattle.std.specs.Option.{option_or}
use Rattle.serde_json.specs.View.{view}
use Rattle.objects.specs.Code.Views.{part_view}
use Rattle.objects.proofs.Names.{seen_first, get_member-all_members}
use Rattle.objects.proofs.header.Header.get.Goals as goal

pub returns : goal.returns
returns c =
    let h = c.args.self.now in
    ap (option_map (λ v. view v.now)) (c.or-2.ensures ∙ ap (λ found. option_or found c.part_member-3.result) c.or.ensures)
    ∙ seen_first (λ v. view v.now) c.part_member.result c.part_member-2.result c.part_member-3.result
    ∙ rw (c.part_member.ensures, c.part_member-2.ensures, c.part_member-3.ensures)
    (sym (get_member-all_members c.args.name.now (part_view h.protected) (part_view h.unprotected) (part_view h.per_recipient)))
