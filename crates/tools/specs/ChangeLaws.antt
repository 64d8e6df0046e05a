-- What the calls of jose-set say of its files.
use Rattle.std.specs.Prelude.{◌≡◌, ℕ, true, List, [], ◌∷◌, ◌++◌, length, Some, Ok, ◌≢◌, Bool, false, Err, ◌⊎◌}
use Rattle.std.specs.List.{list_any}
use Rattle.tools.specs.Calls.{Call, opened, read_opened, read, created, wrote, owned, synced, put, folder_synced, removed}
use Rattle.tools.specs.declared.tool_cause.Place.TheVariants.{Target}
use Rattle.tools.specs.declared.tool_cause.ToolCause.{ToolCause}
use Rattle.tools.specs.declared.tool_cause.ToolCause.TheVariants.{At}
use Rattle.tools.specs.declared.tool_cause.Why.TheVariants.{FolderNotOnDisk}
use Rattle.tools.specs.Changes.{Asked, Changes, adds, removes, beside}
use Rattle.tools.specs.SetHeadline.{added_text}
use Rattle.tools.specs.Sets.{text_without}

-- ---- success (docs/SPECIFICATION.md "Tools")

-- the files were read one after another, and these are their texts
abbrev pub reads : List (List ℕ) → List (List ℕ) → List Call
reads (file ∷ files) (text ∷ texts) = read file (Some text) ∷ reads files texts
reads files texts = []

-- The text was written to the new file of mode 600 that was created before, and this got the owner of the set, was brought to the disk, and
-- then put in the place of the set.
abbrev pub rewriting : List ℕ → List ℕ → List Call
rewriting set text = wrote (beside set) text true ∷ owned (beside set) set true ∷ synced (beside set) true ∷ put (beside set) set true
    ∷ folder_synced set true ∷ []

-- the regular file is open, and the new file is its lock
abbrev pub locking : List ℕ → List Call
locking set = opened set (Ok tt) ∷ created (beside set) (Ok tt) ∷ []

-- After success these calls were made, in this order, and no other: what was put in the place of the set is the text of the answer.
abbrev pub AddsAreWhole : Type 0
AddsAreWhole = (set : List ℕ) (files : List (List ℕ)) (calls : List Call) → Changes (adds set files) calls (Ok tt)
    → (old : List ℕ) × ((texts : List (List ℕ)) × ((text : List ℕ) × ((added_text old texts ≡ Ok text) × (length texts ≡ length files)
    × (calls ≡ locking set ++ (read_opened set (Some old) ∷ (reads files texts ++ rewriting set text))))))

abbrev pub RemovalsAreWhole : Type 0
RemovalsAreWhole = (set : List ℕ) (names : List (List ℕ)) (calls : List Call) → Changes (removes set names) calls (Ok tt)
    → (old : List ℕ) × ((text : List ℕ) × ((text_without names old ≡ Ok text)
    × (calls ≡ locking set ++ (read_opened set (Some old) ∷ rewriting set text))))

-- ---- refusals (docs/SPECIFICATION.md "Tools")

-- the call put a file in the place of another
abbrev pub is_put : Call → Bool
is_put (put from to done) = done
is_put call = false

-- After a refusal no file was put in the place of another, except if the folder alone was not brought to the disk.
abbrev pub RefusalsReplaceNothing : Type 0
RefusalsReplaceNothing = (request : Asked) (calls : List Call) (cause : ToolCause) → Changes request calls (Err cause) → cause ≢ At Target FolderNotOnDisk
    → list_any is_put calls ≡ false

-- the call is among these
abbrev pub Has : Call → List Call → Type 0
Has call [] = ⊥
Has call (other ∷ calls) = (other ≡ call) ⊎ Has call calls

-- Then each file that was created was deleted, or the system refused to.
abbrev pub RefusalsDeleteWhatIsNew : Type 0
RefusalsDeleteWhatIsNew = (request : Asked) (calls : List Call) (cause : ToolCause) (path : List ℕ) → Changes request calls (Err cause)
    → cause ≢ At Target FolderNotOnDisk → Has (created path (Ok tt)) calls → (did : Bool) × Has (removed path did) calls
