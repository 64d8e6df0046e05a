use Rattle.std.proofs.Common.{◌≡◌, length, map, drop}
use Rattle.keys.specs.Code.Views.{key_view}
use Rattle.objects.specs.Texts.{each}
use Rattle.objects.proofs.Lemmas.{with_done}
use Rattle.tokens.specs.Choosing.{recipient_key_by}
use Rattle.tokens.specs.Code.Views.{recipient_key_view}
use Rattle.tokens.proofs.encrypt.settle.recipient_keys_by.Given as goal

-- the recipient keys so far and those of the keys that are left are all recipient keys
abbrev pub invariant-loop-key : goal.invariant-loop-key
invariant-loop-key l =
    let by = recipient_key_by l.asked in
    record {
      exact : each by (map key_view l.keys) ≡ with_done by (map recipient_key_view l.recipient_keys.items) (map key_view (drop l.key-index l.keys));
      as_many : length l.recipient_keys.items ≡ l.key-index;
    }
