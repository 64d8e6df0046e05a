-- Devices over memory that fail, as clauses see them.
use Rattle.std.specs.Prelude.{ℕ, Bool, List, Option, min}
use Rattle.std.specs.Iterator.{Count}
use Rattle.octets.specs.declared.failing.FailingInput.{FailingInput}
use Rattle.octets.specs.declared.failing.FailingOutput.{FailingOutput}
use Rattle.octets.specs.Code.Failing.{Course, room_for}
use Rattle.octets.specs.Code.Views.{Contents, Store, front_of, is_read, rest_of, source_of, read_count, write_count}

-- ---- an input

-- the input over memory that it reads
abbrev pub input_contents : FailingInput → Contents
input_contents s = s.input

abbrev pub input_consumed : FailingInput → List ℕ
input_consumed s = front_of s.input

abbrev pub input_is_at_end : FailingInput → Bool
input_is_at_end s = is_read s.input

abbrev pub input_remaining : FailingInput → Count
input_remaining s = rest_of s.input

abbrev pub input_failures : FailingInput → ℕ
input_failures s = s.failures

abbrev pub input_source : FailingInput → Option (List ℕ)
input_source s = source_of s.input

abbrev pub input_course : FailingInput → Course
input_course s = record { failing = s.failing; calls = s.calls; passed = s.passed }

-- how many octets a read into this much room gives, if it does not fail
abbrev pub input_count : FailingInput → ℕ → ℕ
input_count s room = read_count s.input (room_for s.failing s.passed room)

-- ---- an output

-- the output over memory that it writes to
abbrev pub output_store : FailingOutput → Store
output_store s = s.output

abbrev pub output_written : FailingOutput → List ℕ
output_written s = s.output.octets

abbrev pub output_is_finished : FailingOutput → Bool
output_is_finished s = s.output.is_finished

abbrev pub output_endings : FailingOutput → ℕ
output_endings s = s.output.endings

-- how many octets it has room for
abbrev pub output_room : FailingOutput → ℕ
output_room s = s.output.room

abbrev pub output_failures : FailingOutput → ℕ
output_failures s = s.failures

abbrev pub output_course : FailingOutput → Course
output_course s = record { failing = s.failing; calls = s.calls; passed = s.passed }

-- the most octets that one write takes
abbrev pub output_step : FailingOutput → ℕ
output_step s = s.step

-- how many of n octets a write takes, if it does not fail
abbrev pub output_count : FailingOutput → ℕ → ℕ
output_count s n = write_count s.output (room_for s.failing s.passed (min n s.step))
