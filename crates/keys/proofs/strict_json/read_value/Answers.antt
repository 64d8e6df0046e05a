use Rattle.std.proofs.Common.{refl}
use Rattle.keys.proofs.Readings.{reading_of_text, no_reading}
use Rattle.keys.proofs.strict_json.read_value.Goals as goal

pub returns-in-Ok : goal.returns-in-Ok
returns-in-Ok c = reading_of_text c.args.octets.now _ c.in-Ok.ensures.ok.0 c.in-Ok.ensures.ok.1

pub returns-in-Err-2 : goal.returns-in-Err-2
returns-in-Err-2 c _ = (no_reading c.args.octets.now (c.in-Err.ensures.err (λ memory. cc (c.if-is_memory.ensures.1 memory))), refl)
