-- What jose-look does with its files, call by call (docs/SPECIFICATION.md "Tools").
use Rattle.std.specs.Prelude.{◌≡◌, ℕ, ◌&&◌, Bool, true, List, [], ◌∷◌, ◌++◌, codes, is_some, Option, None, Some, Result, Ok, Err}
use Rattle.tools.specs.declared.tool_cause.ToolCause.{ToolCause}
use Rattle.tools.specs.declared.tool_cause.ToolCause.TheVariants.{Memory, Output, NotAllRead}
use Rattle.tools.specs.Calls.{Call, read, written_out}
use Rattle.tools.specs.Looks.{look_lines}
use Rattle.tools.specs.Printing.{printed}
use Rattle.tools.specs.Steps.{Step, Calls, Computes, Then, needs}

-- ---- what is written (docs/SPECIFICATION.md "Tools")

abbrev pub file_lines : List ℕ → Option (List ℕ) → List (List ℕ)
file_lines name None = (name ++ codes ": it cannot be read") ∷ []
file_lines name (Some text) = look_lines name text

-- the octets that are written for a file, which may not have been read
abbrev pub file_text : List ℕ → Option (List ℕ) → List ℕ
file_text name text = printed (file_lines name text)

abbrev pub last_text : List ℕ
last_text = codes "Nothing of this is verified.\n"

-- ---- calls (docs/SPECIFICATION.md "Tools")

-- all of a file, if it can be read
abbrev pub Opens : List ℕ → List Call → Result (Option (List ℕ)) ToolCause → Type 0
Opens path calls (Ok text) = calls ≡ read path text ∷ []
Opens path calls (Err cause) = (calls ≡ read path None ∷ []) × (cause ≡ Memory)

abbrev pub Writes : List ℕ → Step (Unit {0})
Writes text = Calls (written_out text) Output

-- a file is read to its end, and its lines are written
abbrev pub ShowsFile : List ℕ → Step Bool
ShowsFile path = Then (Opens path) (λ text. Then (Computes (Ok (file_text path text))) (λ octets. Then (Writes octets) (λ done. Computes (Ok (is_some text)))))

-- one file after another; the value says whether all of them were read
abbrev pub ShowsFiles : Bool → List (List ℕ) → Step Bool
ShowsFiles all [] = Computes (Ok all)
ShowsFiles all (file ∷ files) = Then (ShowsFile file) (λ was_read. ShowsFiles (all && was_read) files)

-- At the end a line says that nothing is verified.
abbrev pub Looks : List (List ℕ) → Step (Unit {0})
Looks files = Then (ShowsFiles true files) (λ all. Then (Writes last_text) (λ done. Computes (needs all NotAllRead)))
