use Rattle.std.proofs.Common.{◌≡◌, ◌+◌, ◌*◌, ◌≤◌, drop, map}
use Rattle.tokens.specs.declared.encrypt.deliver.TheConstants.{MOST_FOR_RECIPIENT}
use Rattle.tokens.specs.Delivering.{drawn_for_all}
use Rattle.tokens.specs.Code.Views.{recipient_key_view}
use Rattle.tokens.proofs.encrypt.deliver.drawn_for_all.Given as goal

-- the number of octets so far and that of the recipients that are left are the whole number
abbrev pub invariant-loop-recipient_key : goal.invariant-loop-recipient_key
invariant-loop-recipient_key l = record {
  count : l.count + drawn_for_all (map recipient_key_view (drop l.recipient_key-index l.recipient_keys))
      ≡ drawn_for_all (map recipient_key_view l.recipient_keys);
  bound : l.count ≤ MOST_FOR_RECIPIENT * l.recipient_key-index;
}
