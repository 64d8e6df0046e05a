use Rattle.std.proofs.Common.{map, rules, tests, ◌∙◌}
use Rattle.std.proofs.lemmas.Iterator.{YieldsList-from_slice}
use Rattle.std.proofs.lemmas.Iterator.Search.{any_from_yields_List}
use Rattle.keys.specs.Code.Views.{key_view}
use Rattle.objects.specs.Code.Views.{held_view, signature_view}
use Rattle.tokens.specs.Verifying.{verifies}
use Rattle.tokens.specs.Code.Heads.{has_made_alike}
use Rattle.tokens.proofs.Verifying.Heads.{pointed_decide}
use Rattle.tokens.proofs.Elements.{list_any-map}
use Rattle.tokens.proofs.verify.has_signed.Goals as goal

pub returns : goal.returns
returns c covered =
    let payload = held_view c.args.payload in
    let key = key_view c.args.key.now in
    let heads = c.args.heads.now in
    let signatures = map signature_view c.args.signatures.now in
    any_from_yields_List (λ h. has_made_alike payload signatures (signature_view h.now) key) _ _ _ c.any.ensures.ran
    (YieldsList-from_slice heads cc) (λ x b q k. search (rules, tests))
    ∙ pointed_decide payload key heads signatures covered ∙ list_any-map (λ s. verifies payload s key) signature_view c.args.signatures.now
