-- What jose-set does with its files, call by call (docs/SPECIFICATION.md "Tools").
use Rattle.std.specs.Prelude.{◌≡◌, ℕ, ◌+◌, Bool, List, [], ◌∷◌, ◌++◌, codes, if◌then◌else◌, Option, None, Some, Result, Ok, Err}
use Rattle.octets.specs.declared.refusal.Refusal.{Refusal}
use Rattle.octets.specs.declared.refusal.Refusal.TheVariants as refusal
use Rattle.tools.specs.declared.put_files.NotCreated.{NotCreated}
use Rattle.tools.specs.declared.put_files.NotCreated.TheVariants as failure
use Rattle.tools.specs.declared.put_files.NotOpened.{NotOpened}
use Rattle.tools.specs.declared.put_files.NotOpened.TheVariants as unopened
use Rattle.tools.specs.declared.tool_cause.Place.{Place}
use Rattle.tools.specs.declared.tool_cause.Place.TheVariants.{Target, Beside, File}
use Rattle.tools.specs.declared.tool_cause.ToolCause.{ToolCause}
use Rattle.tools.specs.declared.tool_cause.ToolCause.TheVariants.{Memory, Output, At}
use Rattle.tools.specs.declared.tool_cause.Why.{Why}
use Rattle.tools.specs.declared.tool_cause.Why.TheVariants as why
use Rattle.tools.specs.Calls.{Call, opened, read_opened, read, written_out, created, wrote, owned, synced, put, removed, folder_synced}
use Rattle.tools.specs.Steps.{Step, Computes, Calls, Then}
use Rattle.tools.specs.Sets.{JoinedKeys, no_keys, set_keys, set_text, text_without, with_text}

-- ---- the set that is changed (docs/SPECIFICATION.md "Tools")

abbrev pub opening_why : NotOpened → Why
opening_why unopened.Link = why.Link
opening_why unopened.NoFile = why.NoFile
opening_why unopened.Shared = why.Shared
opening_why unopened.NotWritable = why.NotWritable

-- The set is opened once, and is a regular file that only its owner may open.
abbrev pub Opens : List ℕ → List Call → Result (Unit {0}) ToolCause → Type 0
Opens path calls (Ok done) = calls ≡ opened path (Ok tt) ∷ []
Opens path calls (Err cause) = (failure : NotOpened) × ((calls ≡ opened path (Err failure) ∷ []) × (cause ≡ At Target (opening_why failure)))

-- ---- new files (docs/SPECIFICATION.md "Tools")

-- the name of the new file beside a file
abbrev pub beside : List ℕ → List ℕ
beside path = path ++ codes ".new"

abbrev pub creation_cause : Place → Why → NotCreated → ToolCause
creation_cause place taken failure.Exists = At place taken
creation_cause place taken failure.Failed = At place why.NotCreated

-- a new file, unless there is one
abbrev pub Creates : List ℕ → Place → Why → List Call → Result (Unit {0}) ToolCause → Type 0
Creates path place taken calls (Ok done) = calls ≡ created path (Ok tt) ∷ []
Creates path place taken calls (Err cause) = (failure : NotCreated) × ((calls ≡ created path (Err failure) ∷ []) × (cause ≡ creation_cause place taken failure))

-- The new file of the first name is brought to the disk, and only then put in the place of the second.
abbrev pub Places : List ℕ → List ℕ → Step (Unit {0})
Places path target = Then (Calls (synced path) (At Beside why.NotOnDisk)) (λ done. Calls (put path target) (At Target why.NotReplaced))

-- the text is written to the new file first
abbrev pub Fills : List ℕ → List ℕ → List ℕ → Step (Unit {0})
Fills path target text = Then (Calls (wrote path text) (At Beside why.NotWritten)) (λ done. Places path target)

-- So it is, and the new file gets the owner of the old one.
abbrev pub Refills : List ℕ → List ℕ → List ℕ → Step (Unit {0})
Refills path target text = Then (Calls (wrote path text) (At Beside why.NotWritten))
    (λ done. Then (Calls (owned path target) (At Beside why.NotWritten)) (λ done. Places path target))

-- after a refusal the file is deleted that was created before
abbrev pub Deletes : List ℕ → Place → Result (Unit {0}) ToolCause → List Call → Result (Unit {0}) ToolCause → Type 0
Deletes path place (Ok done) calls result = (calls ≡ []) × (result ≡ Ok tt)
Deletes path place (Err cause) calls result = (did : Bool) × ((calls ≡ removed path did ∷ []) × (result ≡ Err (if did then cause else At place why.NotDeleted)))

-- a step with a file that was created before it: after a refusal this is deleted
pub record Undoes (path : List ℕ) (place : Place) (step : Step (Unit {0})) (calls : List Call) (result : Result (Unit {0}) ToolCause) : Type 0 where
  pub outcome : Result (Unit {0}) ToolCause
  pub front : List Call
  pub rest : List Call
  pub calls_are : calls ≡ front ++ rest
  pub takes : step front outcome
  pub deletes : Deletes path place outcome rest result

-- the folder of the file is brought to the disk at the end, when the file was changed
abbrev pub EndsAt : List ℕ → Step (Unit {0})
EndsAt path = Calls (folder_synced path) (At Target why.FolderNotOnDisk)

-- ---- what is read (docs/SPECIFICATION.md "Tools")

abbrev pub reading_cause : Place → Refusal → ToolCause
reading_cause place refusal.Memory = Memory
reading_cause place refusal = At place why.Unread

-- all of a file, by this call
abbrev pub Reads : (Option (List ℕ) → Call) → Place → List Call → Result (List ℕ) ToolCause → Type 0
Reads call place calls (Ok text) = calls ≡ call (Some text) ∷ []
Reads call place calls (Err cause) = (refusal : Refusal) × ((calls ≡ call None ∷ []) × (cause ≡ reading_cause place refusal))

-- all of a file, which is judged before anything else is called
abbrev pub Judges : {A : Type 0} → (Option (List ℕ) → Call) → Place → (List ℕ → Result A ToolCause) → Step A
Judges call place judge = Then (Reads call place) (λ text. Computes (judge text))

-- the keys of the files, one after another
abbrev pub Gathers : ℕ → JoinedKeys → List (List ℕ) → Step JoinedKeys
Gathers at joined [] = Computes (Ok joined)
Gathers at joined (file ∷ files) = Then (Judges (read file) (File at) (with_text (File at) joined)) (λ more. Gathers (at + 1) more files)

-- the text of the set of the keys
abbrev pub Writes : JoinedKeys → Step (List ℕ)
Writes joined = Computes (Ok (set_text joined.objects))

abbrev pub ReadsJoined : List (List ℕ) → Step (List ℕ)
ReadsJoined files = Then (Gathers 0 no_keys files) Writes

abbrev pub ReadsAdded : List ℕ → List (List ℕ) → Step (List ℕ)
ReadsAdded set files = Then (Judges (read_opened set) Target set_keys) (λ first. Then (Gathers 0 first files) Writes)

-- what is done to a set: the keys of files are added, or the keys of thumbprints are removed
pub data Editing : Type 0 where
  adding : List (List ℕ) → Editing
  removing : List (List ℕ) → Editing

abbrev pub ReadsEdited : List ℕ → Editing → Step (List ℕ)
ReadsEdited set (adding files) = ReadsAdded set files
ReadsEdited set (removing names) = Judges (read_opened set) Target (text_without names)

-- ---- the commands (docs/SPECIFICATION.md "Tools")

abbrev pub Names : List ℕ → Step (List ℕ)
Names path = Computes (Ok (beside path))

-- Nothing is written before all files were read and judged.
abbrev pub JoinsOut : List (List ℕ) → Step (Unit {0})
JoinsOut files = Then (ReadsJoined files) (λ text. Calls (written_out text) Output)

abbrev pub PutsClaimed : List ℕ → List ℕ → List ℕ → Step (Unit {0})
PutsClaimed path target text = Then (Creates path Beside why.Claimed) (λ done. Undoes path Beside (Fills path target text))

-- Nothing is created before all files were read and judged. The empty file of the name NEW is the claim to this name.
abbrev pub JoinsInto : List ℕ → List (List ℕ) → Step (Unit {0})
JoinsInto new files = Then (ReadsJoined files) (λ text. Then (Names new) (λ path. Then (Creates new Target why.Exists)
    (λ done. Then (Undoes new Target (PutsClaimed path new text)) (λ done. EndsAt new))))

abbrev pub Rewrites : List ℕ → List ℕ → Editing → Step (Unit {0})
Rewrites path set edit = Then (ReadsEdited set edit) (λ text. Refills path set text)

-- The new file beside the set is its lock. It is created before the set is read.
abbrev pub EditsBeside : List ℕ → List ℕ → Editing → Step (Unit {0})
EditsBeside path set edit = Then (Creates path Beside why.Claimed) (λ done. Then (Undoes path Beside (Rewrites path set edit)) (λ done. EndsAt set))

abbrev pub Edits : List ℕ → Editing → Step (Unit {0})
Edits set edit = Then (Opens set) (λ done. Then (Names set) (λ path. EditsBeside path set edit))

-- what the words ask for
pub data Asked : Type 0 where
  -- the keys of the files as one set, in a new file or on standard output
  joins : Option (List ℕ) → List (List ℕ) → Asked
  -- the keys of the files at the end of the set
  adds : List ℕ → List (List ℕ) → Asked
  -- the set without the keys of these thumbprints
  removes : List ℕ → List (List ℕ) → Asked

abbrev pub Changes : Asked → Step (Unit {0})
Changes (joins None files) = JoinsOut files
Changes (joins (Some new) files) = JoinsInto new files
Changes (adds set files) = Edits set (adding files)
Changes (removes set names) = Edits set (removing names)
