use Rattle.std.proofs.Common.{rules, tests, suc, sym, ◌∙◌}
use Rattle.std.proofs.lemmas.Iterator.{YieldsList-from_slice}
use Rattle.std.proofs.lemmas.Iterator.Search.{all_from_yields_List}
use Rattle.std.proofs.lemmas.List.Folds.{list_all-map}
use Rattle.std.specs.Prelude.{nat_le}
use Rattle.serde_json.specs.Data.{members_depth}
use Rattle.objects.specs.Jws.{SignatureParts}
use Rattle.objects.specs.Code.Views.{signature_parts_view}
use Rattle.objects.proofs.jws.build.nest_at_most.Goals as goal

pub returns : goal.returns
returns c =
    let test = λ (s : SignatureParts). nat_le (suc (members_depth s.header)) c.args.depth in
    let signatures = c.args.signatures.now in
    all_from_yields_List (λ s. test (signature_parts_view s)) _ _ _ c.all.ensures.ran (YieldsList-from_slice signatures cc) (λ x b q k. search (rules, tests))
    ∙ sym (list_all-map test signature_parts_view signatures)
