use Rattle.std.proofs.Common.{◌≡◌, ◌+◌, ◌≤◌, drop, map}
use Rattle.tokens.specs.Choosing.{password_count}
use Rattle.tokens.specs.Code.Views.{recipient_key_view}
use Rattle.tokens.proofs.encrypt.settle.password_count.Given as goal

-- the number of passwords so far and that of the recipient keys that are left are the whole number
abbrev pub invariant-loop-recipient_key : goal.invariant-loop-recipient_key
invariant-loop-recipient_key l = record {
  count : l.count + password_count (map recipient_key_view (drop l.recipient_key-index l.recipient_keys))
      ≡ password_count (map recipient_key_view l.recipient_keys);
  few : l.count ≤ l.recipient_key-index;
}
