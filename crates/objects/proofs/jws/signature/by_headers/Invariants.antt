use Rattle.std.proofs.Common.{◌≡◌, map}
use Rattle.keys.specs.Limits.{limits}
use Rattle.objects.specs.Jws.{signature_by}
use Rattle.objects.specs.Texts.{each}
use Rattle.objects.specs.Code.Views.{headed_signature_view, signature_view}
use Rattle.objects.proofs.Each.{with_done}
use Rattle.objects.proofs.jws.signature.by_headers.Given as goal

-- the signatures so far and those that are left are all signatures
abbrev pub invariant-loop-signature : goal.invariant-loop-signature
invariant-loop-signature l =
    each (signature_by limits.management) (map headed_signature_view l.fn.headed.items)
    ≡ with_done (signature_by limits.management) (map signature_view l.signatures.items) (map headed_signature_view l.signature-iterator.rest.items)
