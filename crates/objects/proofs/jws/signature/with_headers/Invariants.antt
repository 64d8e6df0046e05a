use Rattle.std.proofs.Common.{◌≡◌, map}
use Rattle.objects.specs.Jws.{headed_signature}
use Rattle.objects.specs.Texts.{each}
use Rattle.objects.specs.Code.Views.{decoded_signature_view, headed_signature_view}
use Rattle.objects.proofs.Each.{with_done}
use Rattle.objects.proofs.jws.signature.with_headers.Given as goal

-- the signatures so far and those that are left are all signatures
abbrev pub invariant-loop-signature : goal.invariant-loop-signature
invariant-loop-signature l =
    each headed_signature (map decoded_signature_view l.fn.decoded.items)
    ≡ with_done headed_signature (map headed_signature_view l.headed.items) (map decoded_signature_view l.signature-iterator.rest.items)
