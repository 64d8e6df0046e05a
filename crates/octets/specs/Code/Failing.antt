-- When a device fails that was made to fail.
use Rattle.std.specs.Prelude.{ℕ, ◌+◌, ◌-◌, ◌==◌, min, Bool, nat_le, Result, Ok, Err}
use Rattle.octets.specs.Devices.{greatest_count, next_count}
use Rattle.octets.specs.declared.failing.Failing.{Failing}
use Rattle.octets.specs.declared.failing.Failing.TheVariants.{Once, From, After}

-- it fails at this call, counted from 0, after this many octets have passed
abbrev pub is_due : Failing → ℕ → ℕ → Bool
is_due (Once at) call passed = call == at
is_due (From first) call passed = nat_le first call
is_due (After most) call passed = nat_le most passed

-- how many of n octets may pass after this many
abbrev pub room_for : Failing → ℕ → ℕ → ℕ
room_for (Once at) passed n = n
room_for (From first) passed n = n
room_for (After most) passed n = min n (most - passed)

-- when a device fails, how many calls there were, and how many octets have passed
pub record Course : Type 0 where
  pub failing : Failing
  pub calls : ℕ
  pub passed : ℕ

-- not called yet
abbrev pub uncalled : Failing → Course
uncalled failing = record { failing = failing; calls = 0; passed = 0 }

-- its next call fails
abbrev pub fails_next : Course → Bool
fails_next c = is_due c.failing c.calls c.passed

-- after a call in which n octets passed
abbrev pub after_call : ℕ → Course → Course
after_call n c = record { failing = c.failing; calls = next_count c.calls; passed = min (c.passed + n) greatest_count }

-- after a call that failed
abbrev pub after_failure : Course → Course
after_failure c = record { failing = c.failing; calls = next_count c.calls; passed = c.passed }

-- after a call with this result
abbrev pub after_result : {E : Type 0} → Result ℕ E → Course → Course
after_result (Ok n) c = after_call n c
after_result (Err e) c = after_failure c
