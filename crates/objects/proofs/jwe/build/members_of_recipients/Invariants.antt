use Rattle.std.proofs.Common.{◌≡◌, ◌++◌, map, true}
use Rattle.std.specs.List.{list_all}
use Rattle.keys.specs.Json.{member_numbers_are_whole}
use Rattle.objects.specs.Code.Views.{recipient_parts_view, recipient_members_view}
use Rattle.objects.proofs.jwe.build.members_of_recipients.Given as goal

-- the recipients so far and those that are left are all recipients, and the headers of those that are left have whole numbers
abbrev pub invariant-loop-recipient : goal.invariant-loop-recipient
invariant-loop-recipient l =
    (map recipient_members_view l.recipients.items ++ map recipient_parts_view l.recipient-iterator.rest.items ≡ map recipient_parts_view l.fn.parts.items)
    × (list_all (λ r. member_numbers_are_whole (recipient_parts_view r).header) l.recipient-iterator.rest.items ≡ true)
