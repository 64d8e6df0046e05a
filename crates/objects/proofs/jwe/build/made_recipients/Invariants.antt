use Rattle.std.proofs.Common.{◌≡◌, ◌++◌, map, true}
use Rattle.std.specs.List.{list_all}
use Rattle.objects.specs.Code.JweMaking.{is_as_read}
use Rattle.objects.specs.Code.Views.{made_recipient_view, recipient_view}
use Rattle.objects.proofs.jwe.build.made_recipients.Given as goal

-- the recipients so far and those that are left are all recipients, and those that are left may have been read
abbrev pub invariant-loop-recipient : goal.invariant-loop-recipient
invariant-loop-recipient l =
    (map recipient_view l.recipients.items ++ map (made_recipient_view l.enc) l.recipient-iterator.rest.items ≡ map (made_recipient_view l.enc) l.fn.made.items)
    × (list_all (λ m. is_as_read (made_recipient_view l.enc m)) l.recipient-iterator.rest.items ≡ true)
