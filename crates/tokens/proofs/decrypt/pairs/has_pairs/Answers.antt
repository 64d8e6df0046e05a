use Rattle.std.proofs.Common.{nat_lt, length, map, ◌∙◌, rules, tests}
use Rattle.std.proofs.lemmas.Iterator.{YieldsList-from_slice}
use Rattle.std.proofs.lemmas.Iterator.Search.{any_from_yields_List}
use Rattle.keys.specs.Limits.{limits}
use Rattle.keys.specs.Code.Views.{key_view}
use Rattle.objects.specs.Code.Views.{recipient_view}
use Rattle.tokens.specs.Decrypting.{pairs_of}
use Rattle.tokens.proofs.Decrypting.Pairs.{some_has}
use Rattle.tokens.proofs.decrypt.pairs.has_pairs.Goals as goal

pub returns : goal.returns
returns c =
    let keys = map key_view c.args.keys.now in
    let rs = c.args.recipients.now in
    any_from_yields_List (λ r. nat_lt 0 (length (pairs_of limits.management keys (recipient_view r)))) _ _ _ c.any.ensures.ran (YieldsList-from_slice rs cc)
    (λ x b q k. search (rules, tests))
    ∙ some_has keys recipient_view rs
