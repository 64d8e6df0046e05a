use Rattle.std.proofs.Common.{◌≡◌, map, drop}
use Rattle.serde_json.specs.View.{view, items_view}
use Rattle.objects.specs.Jws.{encoded_signature}
use Rattle.objects.specs.Texts.{each_item}
use Rattle.objects.specs.Code.Views.{encoded_signature_view}
use Rattle.objects.proofs.Each.{with_done}
use Rattle.objects.proofs.jws.encoded.encoded_signatures.Given as goal

-- the signatures so far and those that are left are all signatures
abbrev pub invariant-loop-object : goal.invariant-loop-object
invariant-loop-object l =
    each_item encoded_signature (items_view l.objects)
    ≡ with_done encoded_signature (map encoded_signature_view l.texts.items) (map view (drop l.object-index l.objects))
