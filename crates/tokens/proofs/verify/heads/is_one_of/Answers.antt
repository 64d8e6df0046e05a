use Rattle.std.proofs.Common.{rules, tests, sym, ◌&&◌, ◌∙◌}
use Rattle.std.proofs.lemmas.Iterator.{YieldsList-from_slice}
use Rattle.std.proofs.lemmas.Iterator.Search.{any_from_yields_List}
use Rattle.std.specs.Str.{bytes_eq}
use Rattle.objects.specs.Code.Views.{signature_view}
use Rattle.tokens.specs.Code.Heads.{is_alike}
use Rattle.tokens.proofs.Elements.{list_any-map}
use Rattle.tokens.proofs.verify.heads.is_one_of.Goals as goal

pub returns : goal.returns
returns c =
    let head = signature_view c.args.head.now in
    any_from_yields_List (λ s. bytes_eq c.args.mac.now (signature_view s).signature && is_alike head (signature_view s)) _ _ _ c.any.ensures.ran
    (YieldsList-from_slice c.args.signatures.now cc) (λ x b q k. search (rules, tests))
    ∙ sym (list_any-map (λ s. bytes_eq c.args.mac.now s.signature && is_alike head s) signature_view c.args.signatures.now)
