use Rattle.std.proofs.Common.{rules, tests, sym, ◌∙◌}
use Rattle.std.proofs.lemmas.Iterator.{YieldsList-from_slice}
use Rattle.std.proofs.lemmas.Iterator.Search.{all_from_yields_List}
use Rattle.std.proofs.lemmas.List.Folds.{list_all-map}
use Rattle.objects.specs.Jws.{headers_have_no_crit}
use Rattle.objects.specs.Code.Views.{headed_signature_view}
use Rattle.objects.proofs.jws.signature.have_no_crit.Goals as goal

pub returns : goal.returns
returns c =
    let headed = c.args.headed.now in
    all_from_yields_List (λ s. headers_have_no_crit (headed_signature_view s)) _ _ _ c.all.ensures.ran (YieldsList-from_slice headed cc)
    (λ x b q k. search (rules, tests))
    ∙ sym (list_all-map headers_have_no_crit headed_signature_view headed)
