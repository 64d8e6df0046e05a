use Rattle.std.proofs.Common.{rules, tests, sym, ◌∙◌}
use Rattle.std.proofs.lemmas.Iterator.{YieldsList-from_slice}
use Rattle.std.proofs.lemmas.Iterator.Search.{all_from_yields_List}
use Rattle.std.proofs.lemmas.List.Folds.{list_all-map}
use Rattle.keys.specs.Json.{member_numbers_are_whole}
use Rattle.objects.specs.Jws.{SignatureParts}
use Rattle.objects.specs.Code.Views.{signature_parts_view}
use Rattle.objects.proofs.jws.build.have_whole_numbers.Goals as goal

pub returns-clause-whole : goal.returns-clause-whole
returns-clause-whole c =
    let test = λ (s : SignatureParts). member_numbers_are_whole s.header in
    let signatures = c.args.signatures.now in
    all_from_yields_List (λ s. test (signature_parts_view s)) _ _ _ c.all.ensures.ran (YieldsList-from_slice signatures cc) (λ x b q k. search (rules, tests))
    ∙ sym (list_all-map test signature_parts_view signatures)
