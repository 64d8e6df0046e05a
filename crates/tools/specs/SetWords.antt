-- What the words of jose-set ask for (docs/SPECIFICATION.md "Tools").
use Rattle.std.specs.Prelude.{ℕ, ◌==◌, ◌&&◌, not, nat_le, slice_index, Bool, List, [], ◌∷◌, length, count_by, codes, Option, Some, None, option_map, option_and_then, unwrap_or, if◌then◌else◌, Result, Ok, Err}
use Rattle.std.specs.Str.{byte, bytes_eq}
use Rattle.tools.specs.declared.tool_cause.ToolCause.{ToolCause}
use Rattle.tools.specs.declared.tool_cause.ToolCause.TheVariants.{Usage, InputTwice, InputSet}
use Rattle.tools.specs.Changes.{Asked, joins, adds, removes}
use Rattle.tools.specs.Steps.{◌>>=◌, needs}

-- ---- options (POSIX, section 12.2)

-- `-` is no option, but standard input
abbrev pub is_input : List ℕ → Bool
is_input word = bytes_eq word (codes "-")

abbrev pub is_option : List ℕ → Bool
is_option word = not (is_input word) && (slice_index word 0 == byte "-")

-- the words after `--`, or all words if the first is no option
abbrev pub operands : List (List ℕ) → Result (List (List ℕ)) ToolCause
operands [] = Ok []
operands (word ∷ words) = if bytes_eq word (codes "--") then Ok words else if is_option word then Err Usage else Ok (word ∷ words)

-- what follows this octet, if the text begins with it
abbrev pub after : ℕ → List ℕ → Option (List ℕ)
after front [] = None
after front (octet ∷ rest) = if octet == front then Some rest else None

-- the value after `-o` in one word, without an `=` before it
abbrev pub attached : List ℕ → Option (List ℕ)
attached word = option_map (λ value. unwrap_or (after (byte "=") value) value) (option_and_then (after (byte "o")) (after (byte "-") word))

-- ---- requests (docs/SPECIFICATION.md "Tools")

-- standard input is read once, or not at all
abbrev pub reads_input_once : List (List ℕ) → Bool
reads_input_once files = nat_le (count_by is_input files) 1

abbrev pub joining : Option (List ℕ) → List (List ℕ) → Result Asked ToolCause
joining new words = do
  files ← operands words
  some ← needs (not (length files == 0)) Usage
  once ← needs (reads_input_once files) InputTwice
  Ok (joins new files)

-- NEW is no option's name, and not standard output
abbrev pub joining_into : List ℕ → List (List ℕ) → Result Asked ToolCause
joining_into new words = do
  some ← needs (not (length new == 0)) Usage
  file ← needs (not (is_input new)) Usage
  joining (Some new) words

-- the value of `-o` in the first word, or no `-o`
abbrev pub joining_by : Option (List ℕ) → List ℕ → List (List ℕ) → Result Asked ToolCause
joining_by (Some new) first words = joining_into new words
joining_by None first words = joining None (first ∷ words)

-- NEW is a word of its own
abbrev pub joining_next : List (List ℕ) → Result Asked ToolCause
joining_next [] = Err Usage
joining_next (new ∷ words) = if is_option new then Err Usage else joining_into new words

abbrev pub joining_of : List (List ℕ) → Result Asked ToolCause
joining_of [] = Err Usage
joining_of (first ∷ words) = if bytes_eq first (codes "-o") then joining_next words else joining_by (attached first) first words

abbrev pub adding_of : List (List ℕ) → Result Asked ToolCause
adding_of (set ∷ files) = do
  some ← needs (not (length files == 0)) Usage
  named ← needs (not (is_input set)) InputSet
  once ← needs (reads_input_once files) InputTwice
  Ok (adds set files)
adding_of [] = Err Usage

abbrev pub removing_of : List (List ℕ) → Result Asked ToolCause
removing_of (set ∷ thumbprints) = do
  some ← needs (not (length thumbprints == 0)) Usage
  named ← needs (not (is_input set)) InputSet
  Ok (removes set thumbprints)
removing_of [] = Err Usage

-- `join`, `add` or `remove` with its words
abbrev pub set_request_of : List (List ℕ) → Result Asked ToolCause
set_request_of [] = Err Usage
set_request_of (verb ∷ words) = if bytes_eq verb (codes "join") then joining_of words
    else if bytes_eq verb (codes "add") then operands words >>= adding_of
    else if bytes_eq verb (codes "remove") then operands words >>= removing_of
    else Err Usage
