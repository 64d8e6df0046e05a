-- The lines of `jose-look command` (docs/SPECIFICATION.md "Tools").
use Rattle.std.specs.Prelude.{◌≡◌, ℕ, ◌==◌, ◌++◌, ◌&&◌, nat_lt, not, length, slice_index, get_or, encode_utf8, Bool, true, false, List, [], ◌∷◌, codes, find, Option, Some, None, MatchResult, if◌then◌else◌}
use Rattle.std.specs.List.{before_first, position_or_len}
use Rattle.std.specs.Option.{option_map_or}
use Rattle.std.specs.Str.{byte, bytes_eq}
use Rattle.jose.specs.Commands.{CommandEntry, OptionEntry, row_of}
use Rattle.jose.specs.Invocations.{InvocationView, Settings, value_at}
use Rattle.jose.specs.Words.{command_named, invocation_of, is_input, is_output}
use Rattle.jose.specs.Files.{Origin, origin_named}
use Rattle.jose.specs.Commands.{is_json}
use Rattle.jose.specs.Files as files
use Rattle.jose.specs.declared.words.table.Role.{Role}
use Rattle.jose.specs.declared.words.table.Role.TheVariants.{Keys, Streamed}
use Rattle.tools.specs.declared.command_files.Found.{Found}
use Rattle.tools.specs.declared.command_files.Found.TheVariants.{Missing as IsMissing, Closed, Folder}
use Rattle.tools.specs.declared.command_words.WordFault.{WordFault}
use Rattle.tools.specs.declared.command_words.WordFault.TheVariants.{Memory, Long, Stray, Unknown, Twice, NoValue, Missing, Inputs, Outputs, NoHash}
use Rattle.tools.specs.CommandWords.{words_fault}
use Rattle.tools.specs.Printing.{printed}

-- ---- what is shown (docs/SPECIFICATION.md "Tools")

abbrev pub is_brace : ℕ → Bool
is_brace octet = octet == byte "{"

abbrev pub has_brace : List ℕ → Bool
has_brace word = nat_lt (position_or_len is_brace word) (length word)

-- A word from its first brace on is {..}: it may be JSON that holds a key.
abbrev pub shown : List ℕ → List ℕ
shown word = if has_brace word then before_first is_brace word ++ codes "{..}" else word

abbrev pub letter_text : ℕ → List ℕ
letter_text letter = codes "-" ++ encode_utf8 letter

abbrev pub octet_text : ℕ → List ℕ
octet_text letter = codes "-" ++ (letter ∷ [])

-- ---- why jose refuses words

-- The rest are the words after the two of the command.
abbrev pub fault_line : List ℕ → List ℕ → List (List ℕ) → WordFault → List ℕ
fault_line noun verb rest Memory = []
fault_line noun verb rest (Long at) = codes "there are no long options: " ++ shown (get_or rest at [])
fault_line noun verb rest (Stray at) = shown (get_or rest at []) ++ codes " is no option: a value stands after its letter"
fault_line noun verb rest (Unknown letter) = octet_text letter ++ (codes " is no option of " ++ (noun ++ (codes " " ++ verb)))
fault_line noun verb rest (Twice letter) = octet_text letter ++ codes " stands twice"
fault_line noun verb rest (NoValue letter) = octet_text letter ++ codes " has no value"
fault_line noun verb rest (Missing letter) = letter_text letter ++ codes " is missing"
fault_line noun verb rest Inputs = codes "two inputs are standard input"
fault_line noun verb rest Outputs = codes "two outputs are standard output"
fault_line noun verb rest (NoHash letter) = letter_text letter ++ codes " is none of S224, S256, S384 and S512"

-- ---- what the options name

abbrev pub found_text : Found → List ℕ
found_text IsMissing = codes ", which is missing"
found_text Closed = codes ", which may not be read"
found_text Folder = codes ", which is a folder"
found_text found = []

-- the line of an input, and what the system said of its file
abbrev pub IsInputLine : (List ℕ → Found → Type 0) → ℕ → Origin → List ℕ → Type 0
IsInputLine finds letter (files.words octets) line = line ≡ letter_text letter ++ codes " is the text itself"
IsInputLine finds letter files.standard_input line = line ≡ letter_text letter ++ codes " reads standard input"
IsInputLine finds letter (files.input_device path) line = line ≡ letter_text letter ++ codes " reads a device"
IsInputLine finds letter (files.input_file path) line =
    (found : Found) × (finds path found × (line ≡ letter_text letter ++ (codes " reads " ++ (shown path ++ found_text found))))

-- ---- outputs

-- a value that names a file, and neither a standard stream nor the JSON itself
abbrev pub names_file : Role → List ℕ → Bool
names_file role value = not (bytes_eq value (codes "-")) && not (is_json role && (slice_index value 0 == byte "{"))

-- jose writes to no file of its keys, and to none that it reads while it writes, nor to one twice
abbrev pub is_kept : Role → Bool
is_kept Keys = true
is_kept Streamed = true
is_kept role = is_output role

-- the option is another one, whose file must not be that of an output, and has this value
abbrev pub is_same_file : Settings → ℕ → List ℕ → OptionEntry → Bool
is_same_file settings letter value option = not (option.letter == letter) && (is_kept option.role && (names_file option.role value
    && option_map_or (bytes_eq value) (value_at option.letter settings) false))

abbrev pub same_text : Option OptionEntry → List ℕ
same_text None = []
same_text (Some option) = codes ", which is the file of " ++ letter_text option.letter

abbrev pub output_line : List OptionEntry → Settings → ℕ → List ℕ → List ℕ
output_line options settings letter value =
    if bytes_eq value (codes "-") then letter_text letter ++ codes " writes standard output"
    else letter_text letter ++ (codes " writes " ++ (shown value ++ same_text (find (is_same_file settings letter value) options)))

-- ---- all options (docs/SPECIFICATION.md "Tools")

-- The text of an option: a line if it is an input or an output, and has a value. What the system said of a file is in it.
abbrev pub IsTextBy : (List ℕ → Found → Type 0) → List OptionEntry → Settings → OptionEntry → Bool → Bool → Option (List ℕ) → List ℕ → Type 0
IsTextBy finds options settings option true writes (Some value) text =
    (line : List ℕ) × ((text ≡ printed (line ∷ [])) × IsInputLine finds option.letter (origin_named (is_json option.role) (Some value)) line)
IsTextBy finds options settings option false true (Some value) text = text ≡ printed (output_line options settings option.letter value ∷ [])
IsTextBy finds options settings option reads writes value text = text ≡ []

abbrev pub IsOptionText : (List ℕ → Found → Type 0) → List OptionEntry → Settings → OptionEntry → List ℕ → Type 0
IsOptionText finds options settings option text =
    IsTextBy finds options settings option (is_input option.role) (is_output option.role) (value_at option.letter settings) text

-- the text of these options, one after another
abbrev pub AreOptionTexts : (List ℕ → Found → Type 0) → List OptionEntry → Settings → List OptionEntry → List ℕ → Type 0
AreOptionTexts finds options settings [] text = text ≡ []
AreOptionTexts finds options settings (option ∷ rest) text = (one : List ℕ) × ((others : List ℕ) × ((text ≡ one ++ others)
    × IsOptionText finds options settings option one × AreOptionTexts finds options settings rest others))

-- ---- all of it (docs/SPECIFICATION.md "Tools")

abbrev pub refused_line : List ℕ
refused_line = codes "jose refuses these words: 1 Usage"

abbrev pub all_commands : List ℕ
all_commands = codes "jwk gen or thp, jws sig, ver or fmt, jwe enc, dec or fmt, b64 enc or dec"

abbrev pub no_command : List ℕ → List ℕ → List ℕ
no_command noun verb = codes "there is no command " ++ (shown noun ++ (codes " " ++ shown verb))

abbrev pub unknown_line : List ℕ → List ℕ → List ℕ
unknown_line noun verb = no_command noun verb ++ codes ", but " ++ all_commands

abbrev pub fault_lines : List ℕ → List ℕ → List (List ℕ) → Option WordFault → List (List ℕ)
fault_lines noun verb rest None = []
fault_lines noun verb rest (Some fault) = fault_line noun verb rest fault ∷ []

abbrev pub command_lines : Option CommandEntry → List ℕ → List ℕ → List (List ℕ) → List (List ℕ)
command_lines None noun verb rest = unknown_line noun verb ∷ []
command_lines (Some entry) noun verb rest = fault_lines noun verb rest (words_fault entry.options rest)

abbrev pub few_words_line : List ℕ
few_words_line = codes "a command has two words: " ++ all_commands

-- the first cause
abbrev pub refusal_lines : List (List ℕ) → List (List ℕ)
refusal_lines (noun ∷ (verb ∷ rest)) = command_lines (command_named noun verb) noun verb rest
refusal_lines other = few_words_line ∷ []

-- what words that jose takes name, and what the system said of the files
abbrev pub AreNamed : (List ℕ → Found → Type 0) → InvocationView → List ℕ → Type 0
AreNamed finds invocation text =
    let options = (row_of invocation.command).options in
    (all : List ℕ) × ((text ≡ printed (codes "jose would read these words" ∷ []) ++ all) × AreOptionTexts finds options invocation.options options all)

-- The text is what jose's own reading of the words says: what they name, or why they are refused.
abbrev pub IsExplained : (List ℕ → Found → Type 0) → List (List ℕ) → List ℕ → Type 0
IsExplained finds asked text =
    MatchResult (invocation_of asked) (λ invocation. AreNamed finds invocation text) (λ refusal. text ≡ printed (refused_line ∷ refusal_lines asked))
