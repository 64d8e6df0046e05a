-- What the devices of jose-set do with the files of the system.
use Rattle.std.specs.Prelude.{◌≡◌, ℕ, false, List, [], Some, Vec, IfOk, OnOk, IsTrue, Result}
use Rattle.std.specs.declared.alloc.Global.{Global}
use Rattle.octets.specs.declared.refusal.Fault.{Fault}
use Rattle.octets.specs.declared.refusal.Refusal.{Refusal}
use Rattle.octets.specs.declared.streams.ReaderInput.{ReaderInput}
use Rattle.octets.specs.declared.streams.WriterOutput.{WriterOutput}
use Rattle.octets.specs.Devices.{IsFinishedOnce}
use Rattle.octets.specs.Code.Views.{consumed_of, endings_of, is_at_end_of, is_finished_of, written_of}
use Rattle.jose.specs.declared.files.Source.{Source}
use Rattle.jose.specs.Files.{IsNewInput, origin_named}

-- the file of this name, or standard input, was read to its end
pub record IsReadWhole (R F : Type 0) (path : List ℕ) (result : Result (Vec ℕ Global) Refusal) : Type 0 where
  pub before : ReaderInput (Source R F)
  pub after : ReaderInput (Source R F)
  pub new : IsNewInput (origin_named false (Some path)) before
  pub whole : IfOk result (λ text. (consumed_of after ≡ text.items) × IsTrue (is_at_end_of after))

-- the octets, and nothing else, were written to an output, and this was finished once
pub record IsWrittenWhole (W : Type 0) (octets : List ℕ) (result : Result (Unit {0}) Fault) : Type 0 where
  pub before : WriterOutput W
  pub after : WriterOutput W
  pub new : written_of before ≡ []
  pub whole : OnOk result ((written_of after ≡ octets) × IsFinishedOnce is_finished_of endings_of before after)
