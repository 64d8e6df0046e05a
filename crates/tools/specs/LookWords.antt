-- What the words of jose-look ask for (docs/SPECIFICATION.md "Tools").
use Rattle.std.specs.Prelude.{ℕ, ◌==◌, not, List, [], ◌∷◌, length, map, codes, string_bytes, if◌then◌else◌, Result, Ok, Err}
use Rattle.std.specs.Str.{bytes_eq}
use Rattle.tools.specs.declared.look_words.LookRequest.{LookRequest}
use Rattle.tools.specs.declared.look_words.LookRequest.TheVariants as request
use Rattle.tools.specs.declared.tool_cause.ToolCause.{ToolCause}
use Rattle.tools.specs.declared.tool_cause.ToolCause.TheVariants.{Usage, InputTwice}
use Rattle.tools.specs.SetWords.{operands, reads_input_once}
use Rattle.tools.specs.Steps.{◌>>=◌, needs}

-- the files that are shown
abbrev pub look_files : List (List ℕ) → Result (List (List ℕ)) ToolCause
look_files words = do
  files ← operands words
  some ← needs (not (length files == 0)) Usage
  once ← needs (reads_input_once files) InputTwice
  Ok files

pub data LookAsked : Type 0 where
  -- what jose would do with these words
  explains : List (List ℕ) → LookAsked
  -- what these files hold
  shows : List (List ℕ) → LookAsked

-- the words of a command, whose name may stand in front
abbrev pub without_name : List (List ℕ) → List (List ℕ)
without_name [] = []
without_name (word ∷ words) = if bytes_eq word (codes "jose") then words else word ∷ words

-- The first word `command` is no file.
abbrev pub look_request_of : List (List ℕ) → Result LookAsked ToolCause
look_request_of [] = Err Usage
look_request_of (word ∷ words) = if bytes_eq word (codes "command") then Ok (explains (without_name words)) else (look_files (word ∷ words) >>= λ files. Ok (shows files))

-- what a request of the code asks for
abbrev pub look_asked : LookRequest → LookAsked
look_asked (request.Command words) = explains (map string_bytes words.now)
look_asked (request.Files files) = shows (map string_bytes files.now)
