-- What the program does with its words.
use Rattle.std.specs.Prelude.{◌≡◌, List, drop, Result, Ok, Err, MatchResult}
use Rattle.clap.specs.Words.{Text}
use Rattle.octets.specs.declared.refusal.Refusal.{Refusal}
use Rattle.octets.specs.declared.streams.ReaderInput.{ReaderInput}
use Rattle.octets.specs.declared.streams.WriterOutput.{WriterOutput}
use Rattle.octets.specs.Devices.{input_members, output_members}
use Rattle.octets.specs.Code.Views.{consumed_of, is_at_end_of, read_failures_of, written_of, is_finished_of, endings_of, write_failures_of}
use Rattle.jose.specs.declared.files.Source.{Source}
use Rattle.jose.specs.declared.files.Sink.{Sink}
use Rattle.jose.specs.declared.ports.Inputs.{Inputs}
use Rattle.jose.specs.declared.ports.Outputs.{Outputs}
use Rattle.jose.specs.Invocations.{InvocationView}
use Rattle.jose.specs.Words.{invocation_of}
use Rattle.jose.specs.Doing.{Does}
use Rattle.jose.specs.Files.{AreNewInputs, AreNewOutputs}

-- a run of the invocation over the devices that it names, none of which was read from or written to before: all that a run promises of them
pub record IsRun (R U F : Type 0) (invocation : InvocationView) (result : Result (Unit {0}) Refusal) : Type 0 where
  pub inputs : Inputs (ReaderInput (Source R F))
  pub outputs : Outputs (WriterOutput (Sink R U F))
  pub inputs_after : Inputs (ReaderInput (Source R F))
  pub outputs_after : Outputs (WriterOutput (Sink R U F))
  pub new_inputs : AreNewInputs invocation inputs
  pub new_outputs : AreNewOutputs invocation outputs
  pub does : Does (input_members consumed_of is_at_end_of read_failures_of) (output_members written_of is_finished_of endings_of write_failures_of)
      invocation inputs inputs_after outputs outputs_after result

-- Words that are not a command are refused as `parse` refuses them. Words that are a command are run.
abbrev pub Serves : (R U F : Type 0) → List Text → Result (Unit {0}) Refusal → Type 0
Serves R U F words result = MatchResult (invocation_of words) (λ invocation. IsRun R U F invocation result) (λ refusal. result ≡ Err refusal)

-- If the system refuses to return the arguments, its refusal is the result. Otherwise the words are the arguments after the program's name.
abbrev pub Performs : (R U F : Type 0) → Result (List Text) Refusal → Result (Unit {0}) Refusal → Type 0
Performs R U F (Err refusal) result = result ≡ Err refusal
Performs R U F (Ok arguments) result = Serves R U F (drop 1 arguments) result
