use Rattle.std.proofs.Common.{◌≡◌, map, drop}
use Rattle.serde_json.specs.View.{view, items_view}
use Rattle.objects.specs.Jwe.{encoded_recipient}
use Rattle.objects.specs.Texts.{each_item}
use Rattle.objects.specs.Code.Views.{encoded_recipient_view}
use Rattle.objects.proofs.Each.{with_done}
use Rattle.objects.proofs.jwe.encoded.encoded_recipients.Given as goal

-- the recipients so far and those that are left are all recipients
abbrev pub invariant-loop-object : goal.invariant-loop-object
invariant-loop-object l =
    each_item encoded_recipient (items_view l.objects)
    ≡ with_done encoded_recipient (map encoded_recipient_view l.texts.items) (map view (drop l.object-index l.objects))
