use Rattle.std.proofs.Common.{◌≡◌, ◌++◌, drop, length, map}
use Rattle.tokens.specs.Delivering.{drawn_for_all, deliveries_to}
use Rattle.tokens.specs.Code.Views.{recipient_key_view, encryption_plan_view, delivery_view}
use Rattle.tokens.proofs.encrypt.deliver.deliver_to_all.Given as goal

-- the deliveries so far and those to the recipients that are left, with the octets that are left, are all deliveries
abbrev pub invariant-loop-recipient_key : goal.invariant-loop-recipient_key
invariant-loop-recipient_key l =
    let e = encryption_plan_view l.encryption in
    let left = map recipient_key_view (drop l.recipient_key-index l.encryption.recipient_keys.items) in
    record {
      deliveries : map delivery_view l.list.items ++ deliveries_to e l.cek left l.left ≡ deliveries_to e l.cek e.recipient_keys l.drawn;
      drawn : length l.left ≡ drawn_for_all left;
    }
