use Rattle.std.proofs.Common.{length, map, ap, ◌∙◌, rules, tests}
use Rattle.std.proofs.lemmas.Iterator.{YieldsList-from_slice}
use Rattle.std.proofs.lemmas.Iterator.Consumers.{count_from_yields_List, YieldsList-from_filter}
use Rattle.keys.specs.Code.Views.{key_view}
use Rattle.objects.specs.Code.Views.{recipient_view}
use Rattle.tokens.specs.Decrypting.{is_candidate, pairs_by}
use Rattle.tokens.specs.Code.Views.{algorithms_view}
use Rattle.tokens.proofs.Decrypting.Pairs.{candidates_are}
use Rattle.tokens.proofs.decrypt.pairs.pair_count.Goals as goal

pub returns-in-Some-clause-count : goal.returns-in-Some-clause-count
returns-in-Some-clause-count c =
    let keys = c.args.keys.now in
    let a = algorithms_view c.in-Some.algorithms in
    count_from_yields_List _ _ c.count.ensures.ran (YieldsList-from_filter _ (λ key. is_candidate a (key_view key)) (YieldsList-from_slice keys cc)
    c.filter.ensures.closure (λ x b q k. search (rules, tests)))
    ∙ candidates_are (recipient_view c.args.recipient.now) a key_view keys
    ∙ ap (λ o. length (pairs_by (map key_view keys) (recipient_view c.args.recipient.now) o)) c.in-Some.ensures.named
