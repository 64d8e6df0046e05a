use Rattle.std.proofs.Common.{map, sym, subst}
use Rattle.keys.specs.Limits.{limits}
use Rattle.objects.specs.Code.Making.{made_object, IsBuilt}
use Rattle.objects.specs.Code.Views.{made_signature_view}
use Rattle.tokens.specs.Code.Views.{signing_view}
use Rattle.tokens.proofs.Signing.Objects.{is_built}
use Rattle.tokens.proofs.sign.unsigned.Goals as goal

pub made-requires : goal.made-requires
made-requires c =
    let signatures = map made_signature_view c.in_ok-signatures.signatures.items in
    subst (λ payload. IsBuilt limits (made_object payload signatures)) (sym c.new.ensures.items)
    (is_built (signing_view c.args.signing.now) signatures c.requires c.in_ok-signatures.ensures.signatures)
