use Rattle.std.proofs.Common.{◌≡◌, map, drop}
use Rattle.keys.specs.Code.Views.{key_view}
use Rattle.objects.specs.Texts.{each}
use Rattle.objects.proofs.Lemmas.{with_done}
use Rattle.tokens.specs.Signing.{signer_by}
use Rattle.tokens.specs.Code.Views.{signer_view, template_view}
use Rattle.tokens.proofs.sign.settle.signers_by.Given as goal

-- the signers so far and those of the keys that are left are all signers
abbrev pub invariant-loop-key : goal.invariant-loop-key
invariant-loop-key l =
    let by = signer_by (template_view l.template) in
    each by (map key_view l.keys) ≡ with_done by (map signer_view l.signers.items) (map key_view (drop l.key-index l.keys))
