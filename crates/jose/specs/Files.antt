-- Sources and sinks as clauses see them, which of them the value of an option names, and the devices of a run.
use Rattle.std.specs.Prelude.{◌≡◌, ℕ, ◌&&◌, ◌==◌, Bool, false, List, [], ◌∷◌, drop, Option, None, Some, IsSome, IsNone, Result, codes, slice_index, option_map, if◌then◌else◌, ⊤}
use Rattle.std.specs.declared.io.Error.{Error}
use Rattle.std.specs.Option.{option_and_then, option_or}
use Rattle.std.specs.Iterator.{at_most}
use Rattle.std.specs.Str.{byte, bytes_eq}
use Rattle.clap.specs.Words.{Text}
use Rattle.octets.specs.declared.streams.ReaderInput.{ReaderInput}
use Rattle.octets.specs.declared.streams.WriterOutput.{WriterOutput}
use Rattle.octets.specs.Code.Views.{reader_of, consumed_of, is_at_end_of, remaining_of, read_failures_of, writer_of, written_of, is_finished_of, endings_of, write_failures_of}
use Rattle.octets.specs.Code.Streams.{most_octets}
use Rattle.jose.specs.declared.words.table.Role.{Role}
use Rattle.jose.specs.declared.words.table.Role.TheVariants as role
use Rattle.jose.specs.declared.files.Purpose.{Purpose}
use Rattle.jose.specs.declared.files.Purpose.TheVariants.{Public, Secret, Key}
use Rattle.jose.specs.declared.files.Source.{Source}
use Rattle.jose.specs.declared.files.Source.TheVariants as source
use Rattle.jose.specs.declared.files.Sink.{Sink}
use Rattle.jose.specs.declared.files.Sink.TheVariants as sink
use Rattle.jose.specs.declared.ports.Inputs.{Inputs}
use Rattle.jose.specs.declared.ports.Outputs.{Outputs}
use Rattle.jose.specs.Commands.{OptionEntry, option_at, option_with, is_json}
use Rattle.jose.specs.Invocations.{Settings, InvocationView, value_at}
use Rattle.jose.specs.System.{PlaceView, input_stream, output_stream, file_named, Request, request_of, MayBeSynchronized}

-- ---- sources

-- octets of the words, standard input, the file of this name, or the character device of this name
pub data Origin : Type 0 where
  words : List ℕ → Origin
  standard_input : Origin
  input_file : Text → Origin
  input_device : Text → Origin

abbrev pub origin_of : {R F : Type 0} → Source R F → Origin
origin_of (source.Words octets) = words octets.now
origin_of (source.Standard stdin) = standard_input
origin_of (source.File files path opened) = input_file path.now
origin_of (source.Device files path opened) = input_device path.now

-- the origin after a read of n octets: words lose them, and every other origin stays the same
abbrev pub after_read : ℕ → Origin → Origin
after_read n (words octets) = words (drop n octets)
after_read n origin = origin

-- the octets that the source still has, if they are known: those of the words, and those of an open file whose octets are known
abbrev pub source_remaining : {R F : Type 0} → (F → Option (List ℕ)) → Source R F → Option (List ℕ)
source_remaining remaining (source.Words octets) = Some octets.now
source_remaining remaining (source.Standard stdin) = None
source_remaining remaining (source.File files path opened) = option_and_then remaining opened
source_remaining remaining (source.Device files path opened) = option_and_then (option_and_then remaining) opened

-- if the source is a file or a device, it is open
abbrev pub IsOpenSource : {R F : Type 0} → Source R F → Type 0
IsOpenSource (source.File files path opened) = IsSome opened
IsOpenSource (source.Device files path opened) = IsSome opened
IsOpenSource other = ⊤

-- the source is to be a device, and the file of this name is none
abbrev pub IsNoDevice : {R F : Type 0} → Source R F → Type 0
IsNoDevice (source.Device files path opened) = opened ≡ Some None
IsNoDevice other = ⊥

-- if the source is a file or a device, it is not open yet
abbrev pub IsUnopenedSource : {R F : Type 0} → Source R F → Type 0
IsUnopenedSource (source.File files path opened) = IsNone opened
IsUnopenedSource (source.Device files path opened) = IsNone opened
IsUnopenedSource other = ⊤

-- The origin that an option's value names. No value means no octets, and `-` means standard input. If the option may hold JSON, a text that
-- begins with `{` is the JSON itself. Any other text is the name of a file.
abbrev pub origin_named : Bool → Option Text → Origin
origin_named may_be_json None = words []
origin_named may_be_json (Some text) =
    if bytes_eq text (codes "-") then standard_input
    else if may_be_json && (slice_index text 0 == byte "{") then words text
    else input_file text

-- the origin of an option's input, which has no octets if the command does not have the option
abbrev pub origin_at : Option OptionEntry → Settings → Origin
origin_at None settings = words []
origin_at (Some option) settings = origin_named (is_json option.role) (value_at option.letter settings)

-- the file of an input, which octets of the words do not have
abbrev pub file_of : Origin → Option PlaceView
file_of (words octets) = None
file_of standard_input = Some input_stream
file_of (input_file name) = Some (file_named name)
file_of (input_device name) = Some (file_named name)

-- the device of random octets if `-R` names no file
abbrev pub system_random : Text
system_random = codes "/dev/urandom"

-- the origin of random octets, by the value of `-R` (docs/SPECIFICATION.md "Commands")
abbrev pub random_origin : Option Text → Origin
random_origin None = input_device system_random
random_origin (Some text) = origin_named false (Some text)

-- ---- sinks

-- nowhere, standard output, or the file that is opened by this request, for this purpose
pub data Destination : Type 0 where
  nowhere : Destination
  standard_output : Destination
  output_file : Request → Purpose → Destination

abbrev pub destination_of : {R U F : Type 0} → Sink R U F → Destination
destination_of sink.Nowhere = nowhere
destination_of (sink.Standard stdout) = standard_output
destination_of (sink.File file) = output_file (request_of file.name) file.purpose

-- the octets that the sink holds, if they are known: those of an open file whose octets are known
abbrev pub sink_contents : {R U F : Type 0} → (F → Option (List ℕ)) → Sink R U F → Option (List ℕ)
sink_contents contents (sink.File file) = option_and_then contents file.opened
sink_contents contents other = None

-- if the sink is a file, it is open
abbrev pub IsOpenSink : {R U F : Type 0} → Sink R U F → Type 0
IsOpenSink (sink.File file) = IsSome file.opened
IsOpenSink other = ⊤

-- if the sink is a file, it is not open yet
abbrev pub IsUnopenedSink : {R U F : Type 0} → Sink R U F → Type 0
IsUnopenedSink (sink.File file) = IsNone file.opened
IsUnopenedSink other = ⊤

-- if the purpose is a key, the file is open, and it was synchronized unless it cannot be
abbrev pub IsKeptFor : {F : Type 0} → Purpose → (F → Result (Unit {0}) Error → Type 0) → Option F → Type 0
IsKeptFor Key gives None = ⊥
IsKeptFor Key gives (Some file) = MayBeSynchronized (gives file)
IsKeptFor other gives opened = ⊤

-- if the sink is the file of a made key, this is open, and it was synchronized unless it cannot be
abbrev pub IsKept : {R U F : Type 0} → (R → F → Result (Unit {0}) Error → Type 0) → Sink R U F → Type 0
IsKept gives (sink.File file) = IsKeptFor file.purpose (gives file.files.now) file.opened
IsKept gives other = ⊤

-- the mode of a file that is created: only its owner may read and write a secret or a key
abbrev pub mode_for : Purpose → ℕ
mode_for Public = 0o666
mode_for other = 0o600

-- The destination that an option's value names. No value means nowhere, and `-` means standard output. Any other text is the name of a
-- file.
abbrev pub destination_named : Purpose → List (Option PlaceView) → Option Text → Destination
destination_named purpose others None = nowhere
destination_named purpose others (Some text) =
    if bytes_eq text (codes "-") then standard_output
    else output_file (record { path = text; mode = mode_for purpose; others = others }) purpose

abbrev pub purpose_of : Role → Purpose
purpose_of role.Secret = Secret
purpose_of role.MadeKey = Key
purpose_of other = Public

-- the destination of an option's output, which is nowhere if the command does not have the option
abbrev pub destination_at : Option OptionEntry → List (Option PlaceView) → Settings → Destination
destination_at None others settings = nowhere
destination_at (Some option) others settings = destination_named (purpose_of option.role) others (value_at option.letter settings)

-- ---- the files that an output must not be

-- the file of the content that is read while an output is written
abbrev pub streamed_file : InvocationView → Option PlaceView
streamed_file invocation = file_of (origin_at (option_with role.Streamed invocation.command) invocation.options)

-- the file of the keys
abbrev pub keys_file : InvocationView → Option PlaceView
keys_file invocation = file_of (origin_at (option_with role.Keys invocation.command) invocation.options)

-- the file of an output that an option's value names
abbrev pub file_written : Option Text → Option PlaceView
file_written = option_map (λ text. if bytes_eq text (codes "-") then output_stream else file_named text)

-- No output may be the file of the content that is read meanwhile, or that of the keys. The output of the text may not be the file of the
-- other output either.
abbrev pub text_others : InvocationView → List (Option PlaceView)
text_others invocation = streamed_file invocation ∷ keys_file invocation ∷ file_written (value_at (byte "O") invocation.options) ∷ []

abbrev pub content_others : InvocationView → List (Option PlaceView)
content_others invocation = streamed_file invocation ∷ keys_file invocation ∷ None ∷ []

-- ---- the devices of a run

-- an input of this origin, from which nothing was read
pub record IsNewInput {R F : Type 0} (origin : Origin) (device : ReaderInput (Source R F)) : Type 0 where
  pub source : origin_of (reader_of device) ≡ origin
  pub unopened : IsUnopenedSource (reader_of device)
  pub consumed : consumed_of device ≡ []
  pub begins : is_at_end_of device ≡ false
  pub remaining : remaining_of device ≡ at_most most_octets
  pub failures : read_failures_of device ≡ 0

-- an output to this destination, to which nothing was written
pub record IsNewOutput {R U F : Type 0} (destination : Destination) (device : WriterOutput (Sink R U F)) : Type 0 where
  pub sink : destination_of (writer_of device) ≡ destination
  pub unopened : IsUnopenedSink (writer_of device)
  pub written : written_of device ≡ []
  pub unfinished : is_finished_of device ≡ false
  pub endings : endings_of device ≡ 0
  pub failures : write_failures_of device ≡ 0

-- Each input is the one that its option names. The option of the text is `-i`, or `-s` if the command has no `-i`. The random input is that
-- of `-R`, or the device `/dev/urandom` if `-R` has no value.
pub record AreNewInputs {R F : Type 0} (invocation : InvocationView) (inputs : Inputs (ReaderInput (Source R F))) : Type 0 where
  pub text : IsNewInput (origin_at (option_or (option_at "i" invocation.command) (option_at "s" invocation.command)) invocation.options) inputs.text
  pub content : IsNewInput (origin_at (option_at "I" invocation.command) invocation.options) inputs.content
  pub keys : IsNewInput (origin_at (option_at "k" invocation.command) invocation.options) inputs.keys
  pub random : IsNewInput (random_origin (value_at (byte "R") invocation.options)) inputs.random

-- Each output is the one that its option names, with its purpose and the files that it must not be.
pub record AreNewOutputs {R U F : Type 0} (invocation : InvocationView) (outputs : Outputs (WriterOutput (Sink R U F))) : Type 0 where
  pub text : IsNewOutput (destination_at (option_at "o" invocation.command) (text_others invocation) invocation.options) outputs.text
  pub content : IsNewOutput (destination_at (option_at "O" invocation.command) (content_others invocation) invocation.options) outputs.content
