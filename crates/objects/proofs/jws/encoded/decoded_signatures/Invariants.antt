use Rattle.std.proofs.Common.{◌≡◌, map}
use Rattle.objects.specs.Jws.{decoded_signature}
use Rattle.objects.specs.Texts.{each}
use Rattle.objects.specs.Code.Views.{encoded_signature_view, decoded_signature_view}
use Rattle.objects.proofs.Each.{with_done}
use Rattle.objects.proofs.jws.encoded.decoded_signatures.Given as goal

-- the signatures so far and those that are left are all signatures
abbrev pub invariant-loop-text : goal.invariant-loop-text
invariant-loop-text l =
    each decoded_signature (map encoded_signature_view l.fn.texts.items)
    ≡ with_done decoded_signature (map decoded_signature_view l.signatures.items) (map encoded_signature_view l.text-iterator.rest.items)
