-- What a tool does with its arguments.
use Rattle.std.specs.Prelude.{◌≡◌, ℕ, List, [], Some, None, Result, Ok, Err, MatchResult}
use Rattle.octets.specs.declared.refusal.Refusal.{Refusal}
use Rattle.octets.specs.declared.streams.ReaderInput.{ReaderInput}
use Rattle.octets.specs.declared.streams.WriterOutput.{WriterOutput}
use Rattle.octets.specs.Devices.{input_members, output_members}
use Rattle.octets.specs.Code.Views.{consumed_of, is_at_end_of, read_failures_of, written_of, is_finished_of, endings_of, write_failures_of}
use Rattle.jose.specs.declared.files.Source.{Source}
use Rattle.jose.specs.declared.files.Sink.{Sink}
use Rattle.jose.specs.declared.ports.Inputs.{Inputs}
use Rattle.jose.specs.declared.ports.Outputs.{Outputs}
use Rattle.jose.specs.Files.{AreNewInputs, AreNewOutputs}
use Rattle.tools.specs.declared.cause.Cause.{Cause}
use Rattle.tools.specs.declared.command_files.Found.{Found}
use Rattle.tools.specs.declared.cause.Cause.TheVariants.{Refused}
use Rattle.tools.specs.declared.words.Tool.{Tool}
use Rattle.tools.specs.declared.words.Tool.TheVariants.{VerifyAll, Set, Look}
use Rattle.tools.specs.declared.tool_cause.ToolCause.{ToolCause}
use Rattle.tools.specs.declared.tool_cause.ToolCause.TheVariants.{Memory}
use Rattle.tools.specs.Calls.{Call}
use Rattle.tools.specs.Changes.{Changes, Asked, joins, adds, removes}
use Rattle.tools.specs.CommandLines.{IsExplained}
use Rattle.tools.specs.LookCalls.{Looks, Writes}
use Rattle.tools.specs.LookWords.{LookAsked, explains, shows, look_request_of}
use Rattle.tools.specs.Reports.{IsReported}
use Rattle.tools.specs.ToolEndings.{IsToolReported}
use Rattle.tools.specs.ToolReports.{NamedWords}
use Rattle.tools.specs.SetWords.{set_request_of}
use Rattle.tools.specs.Steps.{Step, Then, Takes}
use Rattle.tools.specs.VerifyAll.{VerifiesAll}
use Rattle.tools.specs.Words.{RequestView, request_of, tool_of}

-- a run over the devices that the words name, none of which was read from or written to before: all that it promises of them
pub record IsRun (R U F : Type 0) (request : RequestView) (result : Result (Unit {0}) Cause) : Type 0 where
  pub inputs : Inputs (ReaderInput (Source R F))
  pub outputs : Outputs (WriterOutput (Sink R U F))
  pub inputs_after : Inputs (ReaderInput (Source R F))
  pub outputs_after : Outputs (WriterOutput (Sink R U F))
  pub new_inputs : AreNewInputs request.invocation inputs
  pub new_outputs : AreNewOutputs request.invocation outputs
  pub verifies : VerifiesAll (input_members consumed_of is_at_end_of read_failures_of)
      (output_members written_of is_finished_of endings_of write_failures_of)
      request.signers request.invocation.options inputs inputs_after outputs outputs_after result

-- Words that ask for nothing are refused as their definition refuses them. Otherwise the tool does what they ask for.
abbrev pub VerifiesAsAsked : (R U F : Type 0) → List (List ℕ) → Result (Unit {0}) Cause → Type 0
VerifiesAsAsked R U F words result = MatchResult (request_of words) (λ request. IsRun R U F request result) (λ refusal. result ≡ Err (Refused refusal))

-- the words that a cause of jose-set may name
abbrev pub words_of : Asked → NamedWords
words_of (joins None files) = record { tool = Set; target = []; others = files }
words_of (joins (Some new) files) = record { tool = Set; target = new; others = files }
words_of (adds set files) = record { tool = Set; target = set; others = files }
words_of (removes set thumbprints) = record { tool = Set; target = set; others = thumbprints }

abbrev pub no_words : Tool → NamedWords
no_words tool = record { tool = tool; target = []; others = [] }

-- Words that ask for nothing are refused, and nothing is called. Otherwise the calls are those of what the words ask for.
abbrev pub SetsAsAsked : {D O : Type 0} → (D → List Call → Type 0) → (O → List ℕ) → List (List ℕ) → D → D → ℕ → O → O → Type 0
SetsAsAsked made written words old new status before after = MatchResult (set_request_of words)
    (λ asked. (outcome : Result (Unit {0}) ToolCause) × (Takes made old new (Changes asked) outcome
    × IsToolReported written (words_of asked) outcome status before after))
    (λ cause. (new ≡ old) × IsToolReported written (no_words Set) (Err cause) status before after)

-- Nothing but the lines of the words is written, by what the system says of the files that they name. The value is the text.
abbrev pub Explains : (List ℕ → Found → Type 0) → List (List ℕ) → List Call → Result (List ℕ) ToolCause → Type 0
Explains finds words calls (Ok text) = (calls ≡ []) × IsExplained finds words text
Explains finds words calls (Err cause) = (calls ≡ []) × (cause ≡ Memory)

abbrev pub ShowsCommand : (List ℕ → Found → Type 0) → List (List ℕ) → Step (Unit {0})
ShowsCommand finds words = Then (Explains finds words) Writes

-- what the words of jose-look ask for
abbrev pub LooksAt : (List ℕ → Found → Type 0) → LookAsked → Step (Unit {0})
LooksAt finds (explains words) = ShowsCommand finds words
LooksAt finds (shows files) = Looks files

-- So it is for jose-look, whose causes name no words.
abbrev pub LooksAsAsked : {D O : Type 0} → (D → List Call → Type 0) → (D → List ℕ → Found → Type 0) → (O → List ℕ) → List (List ℕ) → D → D → ℕ → O → O → Type 0
LooksAsAsked made finds written words old new status before after = MatchResult (look_request_of words)
    (λ asked. (outcome : Result (Unit {0}) ToolCause) × (Takes made old new (LooksAt (finds old) asked) outcome
    × IsToolReported written (no_words Look) outcome status before after))
    (λ cause. (new ≡ old) × IsToolReported written (no_words Look) (Err cause) status before after)

abbrev pub Serves : {D O : Type 0} → (D → List Call → Type 0) → (D → List ℕ → Found → Type 0) → (O → List ℕ) → (R U F : Type 0) → Tool → List (List ℕ) → D → D → ℕ → O → O → Type 0
Serves made finds written R U F VerifyAll words old new status before after =
    (outcome : Result (Unit {0}) Cause) × (VerifiesAsAsked R U F words outcome × IsReported written outcome status before after)
Serves made finds written R U F Set words old new status before after = SetsAsAsked made written words old new status before after
Serves made finds written R U F Look words old new status before after = LooksAsAsked made finds written words old new status before after

-- If the system refuses to return the arguments, or they name no tool, that refusal is reported. Otherwise the tool gets its words.
abbrev pub Performs : {D O : Type 0} → (D → List Call → Type 0) → (D → List ℕ → Found → Type 0) → (O → List ℕ) → (R U F : Type 0) → Result (List (List ℕ)) Refusal → D → D → ℕ → O → O → Type 0
Performs made finds written R U F (Err refusal) old new status before after = IsReported written (Err (Refused refusal)) status before after
Performs made finds written R U F (Ok arguments) old new status before after =
    MatchResult (tool_of arguments) (λ found. Serves made finds written R U F found.0 found.1 old new status before after)
    (λ refusal. IsReported written (Err (Refused refusal)) status before after)
