-- The calls that jose-set makes of the system (docs/SPECIFICATION.md "Tools").
use Rattle.std.specs.Prelude.{ℕ, Bool, List, [], ◌∷◌, ◌++◌, Option, Result, Ok, Err}
use Rattle.tools.specs.declared.put_files.NotCreated.{NotCreated}
use Rattle.tools.specs.declared.put_files.NotOpened.{NotOpened}

-- ---- calls (docs/SPECIFICATION.md "Tools")

-- a call with its answer; a truth value says that it did its work
pub data Call : Type 0 where
  -- the regular file of this name, which only its owner may open, was opened for reading and writing
  opened : List ℕ → Result (Unit {0}) NotOpened → Call
  -- all octets of this open file, whatever its name is by then
  read_opened : List ℕ → Option (List ℕ) → Call
  -- all octets of the file, or of standard input if the name is `-`
  read : List ℕ → Option (List ℕ) → Call
  -- the octets were written to standard output, and this was finished
  written_out : List ℕ → Bool → Call
  -- a new file of mode 600
  created : List ℕ → Result (Unit {0}) NotCreated → Call
  -- the octets were written to the new file
  wrote : List ℕ → List ℕ → Bool → Call
  -- the new file got the owner of the other, which is open, and its group where the system allows it
  owned : List ℕ → List ℕ → Bool → Call
  -- all of the new file is on the disk
  synced : List ℕ → Bool → Call
  -- the first name became the second
  put : List ℕ → List ℕ → Bool → Call
  removed : List ℕ → Bool → Call
  -- the folder of the name is on the disk
  folder_synced : List ℕ → Bool → Call

abbrev pub as_done : {X E : Type 0} → Result X E → Result (Unit {0}) E
as_done (Ok x) = Ok tt
as_done (Err e) = Err e

-- The call was made after whatever was made before.
abbrev pub Makes : {D : Type 0} → (D → List Call → Type 0) → D → D → Call → Type 0
Makes made old new call = (before : List Call) → made old before → made new (before ++ call ∷ [])
