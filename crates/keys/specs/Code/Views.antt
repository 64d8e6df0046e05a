-- What values of the code hold, as contracts see it.
use Rattle.std.specs.Prelude.{map, option_map, string_bytes}
use Rattle.serde_json.specs.View.{members_view}
use Rattle.keys.specs.Generating.{KeyTemplate, MadeKey}
use Rattle.keys.specs.Keys.{OctetKey}
use Rattle.keys.specs.declared.generating.KeyPlan.{KeyPlan}
use Rattle.keys.specs.declared.key.Key.{Key}
use Rattle.keys.specs.declared.key_template.Asked.{Asked}

abbrev pub key_view : Key → OctetKey
key_view key = record {
  octets = key.octets.items;
  alg = option_map string_bytes key.alg;
  key_use = option_map string_bytes key.key_use;
  key_ops = option_map (λ names. map string_bytes names.items) key.key_ops;
}

abbrev pub asked_view : Asked → KeyTemplate
asked_view asked = record { alg = option_map (λ name. name.now) asked.alg; bytes = asked.bytes }

abbrev pub plan_view : KeyPlan → MadeKey
plan_view plan = record { len = plan.len; members = members_view plan.members.entries }
