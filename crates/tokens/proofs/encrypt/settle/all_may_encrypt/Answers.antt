use Rattle.std.proofs.Common.{rules, tests, sym, ◌∙◌}
use Rattle.std.proofs.lemmas.Iterator.{YieldsList-from_slice}
use Rattle.std.proofs.lemmas.Iterator.Search.{all_from_yields_List}
use Rattle.std.proofs.lemmas.List.Folds.{list_all-map}
use Rattle.tokens.specs.Choosing.{may_encrypt}
use Rattle.tokens.specs.Code.Views.{recipient_key_view}
use Rattle.tokens.proofs.encrypt.settle.all_may_encrypt.Goals as goal

pub returns : goal.returns
returns c =
    all_from_yields_List (λ r. may_encrypt c.args.encryption (recipient_key_view r)) _ _ _ c.all.ensures.ran
    (YieldsList-from_slice c.args.recipient_keys.now cc) (λ x b q k. search (rules, tests))
    ∙ sym (list_all-map (may_encrypt c.args.encryption) recipient_key_view c.args.recipient_keys.now)
