use Rattle.std.proofs.Common.{rules, tests, sym, ◌∙◌}
use Rattle.std.proofs.lemmas.Iterator.{YieldsList-from_slice}
use Rattle.std.proofs.lemmas.Iterator.Search.{any_from_yields_List}
use Rattle.tokens.specs.Choosing.{is_direct}
use Rattle.tokens.specs.Code.Views.{recipient_key_view}
use Rattle.tokens.proofs.Encrypting.RecipientKeys.{list_any-map}
use Rattle.tokens.proofs.encrypt.settle.any_is_direct.Goals as goal

pub returns : goal.returns
returns c =
    any_from_yields_List (λ r. is_direct r.management) _ _ _ c.any.ensures.ran (YieldsList-from_slice c.args.recipient_keys.now cc)
    (λ x b q k. search (rules, tests))
    ∙ sym (list_any-map (λ r. is_direct r.management) recipient_key_view c.args.recipient_keys.now)
