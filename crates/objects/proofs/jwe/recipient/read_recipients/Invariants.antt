use Rattle.std.proofs.Common.{◌≡◌, map}
use Rattle.serde_json.specs.View.{members_view}
use Rattle.keys.specs.Limits.{limits}
use Rattle.objects.specs.Jwe.{recipient_of, recipients_of}
use Rattle.objects.specs.Code.Views.{recipient_view, recipient_members_view}
use Rattle.objects.proofs.Each.{with_done}
use Rattle.objects.proofs.jwe.recipient.read_recipients.Given as goal

-- the recipients so far and those of the parts that are left are all recipients
abbrev pub invariant-loop-recipient : goal.invariant-loop-recipient
invariant-loop-recipient l =
    let protected = members_view l.fn.protected.entries in
    let unprotected = members_view l.fn.unprotected.entries in
    recipients_of limits.management protected unprotected (map recipient_members_view l.fn.parts.items)
    ≡ with_done (recipient_of limits.management protected unprotected) (map recipient_view l.recipients.items)
    (map recipient_members_view l.recipient-iterator.rest.items)
