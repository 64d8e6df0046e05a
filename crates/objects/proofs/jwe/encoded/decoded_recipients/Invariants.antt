use Rattle.std.proofs.Common.{◌≡◌, map}
use Rattle.objects.specs.Jwe.{decoded_recipient}
use Rattle.objects.specs.Texts.{each}
use Rattle.objects.specs.Code.Views.{encoded_recipient_view, recipient_members_view}
use Rattle.objects.proofs.Each.{with_done}
use Rattle.objects.proofs.jwe.encoded.decoded_recipients.Given as goal

-- the recipients so far and those that are left are all recipients
abbrev pub invariant-loop-text : goal.invariant-loop-text
invariant-loop-text l =
    each decoded_recipient (map encoded_recipient_view l.fn.texts.items)
    ≡ with_done decoded_recipient (map recipient_members_view l.recipients.items) (map encoded_recipient_view l.text-iterator.rest.items)
