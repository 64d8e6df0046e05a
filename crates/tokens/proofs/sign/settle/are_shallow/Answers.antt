use Rattle.std.proofs.Common.{rules, tests, sym, ◌∙◌}
use Rattle.std.proofs.lemmas.Iterator.{YieldsList-from_slice}
use Rattle.std.proofs.lemmas.Iterator.Search.{all_from_yields_List}
use Rattle.std.proofs.lemmas.List.Folds.{list_all-map}
use Rattle.keys.specs.Limits.{limits}
use Rattle.tokens.specs.Signing.{Signer}
use Rattle.tokens.specs.Template.{is_shallow}
use Rattle.tokens.specs.Code.Views.{signer_view}
use Rattle.tokens.proofs.sign.settle.are_shallow.Goals as goal

pub returns : goal.returns
returns c =
    let test = λ (s : Signer). is_shallow limits s.protected in
    let signers = c.args.signers.now in
    all_from_yields_List (λ s. test (signer_view s)) _ _ _ c.all.ensures.ran (YieldsList-from_slice signers cc) (λ x b q k. search (rules, tests))
    ∙ sym (list_all-map test signer_view signers)
