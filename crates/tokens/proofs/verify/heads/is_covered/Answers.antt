use Rattle.std.proofs.Common.{◌≡◌, true, not, rules, tests, sym, ap, ◌∙◌}
use Rattle.std.proofs.lemmas.Iterator.{YieldsList-from_slice}
use Rattle.std.proofs.lemmas.Iterator.Search.{any_from_yields_List}
use Rattle.std.specs.List.{list_any}
use Rattle.std.specs.Prelude.{◌||◌}
use Rattle.objects.specs.Code.Views.{signature_view}
use Rattle.tokens.specs.Code.Heads.{has_signature_len, is_alike, pointed_views}
use Rattle.tokens.proofs.Verifying.Heads.{list_any_pointed}
use Rattle.tokens.proofs.verify.heads.is_covered.Goals as goal

pub returns-else-not-has_signature_len : goal.returns-else-not-has_signature_len
returns-else-not-has_signature_len c =
    let s = signature_view c.args.signature.now in
    let long : has_signature_len s ≡ true = search rules in
    any_from_yields_List (λ h. is_alike (signature_view h.now) s) _ _ _ c.any.ensures.ran (YieldsList-from_slice c.args.heads.now cc)
    (λ x b q k. search (rules, tests))
    ∙ sym (list_any_pointed (λ h. is_alike h s) c.args.heads.now)
    ∙ ap (λ b. not b || list_any (λ h. is_alike h s) (pointed_views c.args.heads.now)) (sym long)
