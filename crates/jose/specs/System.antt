-- The requests to the operating system. All that is known about an answer is that the system may give it: `gives` is the system's own
-- relation.
use Rattle.std.specs.Prelude.{◌≡◌, ℕ, ℤ, pos, ◌≤ℤ◌, ◌⊎◌, ⊤, Bool, true, false, not, ◌&&◌, ◌==◌, List, [], ◌∷◌, map, Option, None, Some, option_map, IfSome, IsErrAnd, Result, Ok, Err, codes}
use Rattle.std.specs.declared.io.Error.{Error}
use Rattle.std.specs.declared.io.ErrorKind.{ErrorKind}
use Rattle.std.specs.declared.io.ErrorKind.TheVariants.{InvalidInput, NotFound, ResourceBusy, Unsupported}
use Rattle.std.specs.IoError.{error_kind}
use Rattle.clap.specs.Words.{Text}
use Rattle.jose.specs.declared.system.FileId.{FileId}
use Rattle.jose.specs.declared.system.FileId.TheVariants.{Regular, Block}
use Rattle.jose.specs.declared.system.OutputName.{OutputName}
use Rattle.jose.specs.declared.system.Place.{Place}
use Rattle.jose.specs.declared.system.Status.{Status}
use Rattle.jose.specs.declared.system.Place.TheVariants as place

-- ---- files that can be examined

-- the file of a standard stream, or that of a name
pub data PlaceView : Type 0 where
  input_stream : PlaceView
  output_stream : PlaceView
  file_named : Text → PlaceView

abbrev pub place_view : Place → PlaceView
place_view place.StandardInput = input_stream
place_view place.StandardOutput = output_stream
place_view (place.Named path) = file_named path.now

abbrev pub places : List (Option Place) → List (Option PlaceView)
places = map (option_map place_view)

-- it is a regular file
abbrev pub IsRegular : Option FileId → Type 0
IsRegular (Some (Regular device inode)) = ⊤
IsRegular other = ⊥

-- ---- names of one file

-- A regular file is known by its device and its inode number, and a block device by its own number.
abbrev pub is_same_file : FileId → FileId → Bool
is_same_file (Regular device inode) (Regular other number) = (device == other) && (inode == number)
is_same_file (Block device) (Block other) = device == other
is_same_file file other = false

abbrev pub is_file : FileId → Option FileId → Bool
is_file file None = false
is_file file (Some other) = is_same_file file other

abbrev pub is_not_found : ErrorKind → Bool
is_not_found NotFound = true
is_not_found kind = false

-- there is no file of this name, and a standard stream is always there
abbrev pub is_absence : PlaceView → ErrorKind → Bool
is_absence (file_named path) kind = is_not_found kind
is_absence stream kind = false

-- An output that is neither a regular file nor a block device has no octets that could be lost, and is no other file. Otherwise it is the
-- other file if both are the same. If the system cannot say what the other file is, the output may be this file, unless this file is not
-- there or the output is empty.
abbrev pub may_be_file : Option FileId → Bool → PlaceView → Result Status Error → Bool
may_be_file None empty place answer = false
may_be_file (Some file) empty place (Ok other) = is_file file other.file
may_be_file (Some file) empty place (Err e) = not (is_absence place (error_kind e)) && not empty

-- the output that is open may be the file at the other place, by what the system says of both
abbrev pub may_be : Status → PlaceView → Result Status Error → Bool
may_be own place answer = may_be_file own.file own.is_empty place answer

-- The system was asked about the other file, and its answer says whether the output may be this file. If there is no other file, it is not
-- asked, and the output is not this file.
abbrev pub MayBeOne : (PlaceView → Result Status Error → Type 0) → Status → Option PlaceView → Bool → Type 0
MayBeOne gives own None is_one = is_one ≡ false
MayBeOne gives own (Some place) is_one = (answer : Result Status Error) × (gives place answer × (is_one ≡ may_be own place answer))

-- the output is none of the others
abbrev pub IsApart : (PlaceView → Result Status Error → Type 0) → Status → List (Option PlaceView) → Type 0
IsApart gives own [] = ⊤
IsApart gives own (other ∷ others) = MayBeOne gives own other false × IsApart gives own others

-- the output may be one of the others
abbrev pub IsNotApart : (PlaceView → Result Status Error → Type 0) → Status → List (Option PlaceView) → Type 0
IsNotApart gives own [] = ⊥
IsNotApart gives own (other ∷ others) = MayBeOne gives own other true ⊎ IsNotApart gives own others

-- ---- outputs

-- what an output is opened by: its name, the mode that it gets if it is created, and the files that it must not be
pub record Request : Type 0 where
  pub path : Text
  pub mode : ℕ
  pub others : List (Option PlaceView)

abbrev pub request_of : OutputName → Request
request_of name = record { path = name.path.now; mode = name.mode; others = places name.others }

-- the file that is open was examined, and is none of the others
abbrev pub IsCompared : (Result Status Error → Type 0) → (PlaceView → Result Status Error → Type 0) → List (Option PlaceView) → Type 0
IsCompared own_gives gives others = (own : Status) × (own_gives (Ok own) × IsApart gives own others)

-- what becomes of an output that is open and was not cut: it cannot be examined, it may be one of the others and is busy, or it is none of
-- them and is cut
abbrev pub IsJudged : {F : Type 0} → (Result Status Error → Type 0) → (PlaceView → Result Status Error → Type 0) → (Result F Error → Type 0)
    → List (Option PlaceView) → Result F Error → Type 0
IsJudged own_gives gives cut_gives others result =
    ((e : Error) × (own_gives (Err e) × (result ≡ Err e)))
    ⊎ (((own : Status) × (own_gives (Ok own) × IsNotApart gives own others × IsErrAnd result (λ e. error_kind e ≡ ResourceBusy)))
    ⊎ (IsCompared own_gives gives others × cut_gives result))

-- An output is opened without being cut. It is cut, and is the result, only if it is none of the others.
abbrev pub IsCreated : {U F : Type 0} → (Request → Result U Error → Type 0) → (U → Result Status Error → Type 0) → (PlaceView → Result Status Error → Type 0)
    → (U → Result F Error → Type 0) → Request → Result F Error → Type 0
IsCreated {U} uncut_gives own_gives gives cut_gives request result =
    ((e : Error) × (uncut_gives request (Err e) × (result ≡ Err e)))
    ⊎ ((uncut : U) × (uncut_gives request (Ok uncut) × IsJudged (own_gives uncut) gives (cut_gives uncut) request.others result))

-- ---- files on their disk

-- the error by which the system reports that a file, such as a pipe or a terminal, cannot be written to a disk
abbrev pub CannotBeSynchronized : Error → Type 0
CannotBeSynchronized e = (error_kind e ≡ InvalidInput) ⊎ (error_kind e ≡ Unsupported)

-- The system was asked to write the file to its disk. Either it did, or it reported that this file cannot be written to a disk.
abbrev pub MayBeSynchronized : (Result (Unit {0}) Error → Type 0) → Type 0
MayBeSynchronized gives = gives (Ok tt) ⊎ ((e : Error) × (gives (Err e) × CannotBeSynchronized e))

-- ---- closed standard streams

-- the number of a standard stream
abbrev pub IsStandard : ℤ → Type 0
IsStandard number = pos 0 ≤ℤ number × number ≤ℤ pos 2

-- a file with the number of a standard stream is held, and a file with any other number is not
abbrev pub IsHeld : {F : Type 0} → (F → Option ℤ) → F → Option F → Type 0
IsHeld number file None = IfSome (number file) (λ n. ¬ IsStandard n)
IsHeld number file (Some held) = (held ≡ file) × IfSome (number file) IsStandard

-- The first folder that the system opens is held if it has the number of a standard stream. If the system opens none of them, none is held.
abbrev pub HoldsFirst : {F : Type 0} → (Text → Result F Error → Type 0) → (F → Option ℤ) → List Text → Option F → Type 0
HoldsFirst gives number [] held = held ≡ None
HoldsFirst {F} gives number (folder ∷ folders) held =
    ((e : Error) × (gives folder (Err e) × HoldsFirst gives number folders held))
    ⊎ ((file : F) × (gives folder (Ok file) × IsHeld number file held))

-- folders that can be opened but neither read nor written
abbrev pub folders : List Text
folders = codes "/" ∷ codes "." ∷ codes "/dev" ∷ codes "/proc" ∷ codes "/etc" ∷ codes "/tmp" ∷ []

-- each closed standard stream has a folder in its place
abbrev pub AreHeld : {F : Type 0} → (Text → Result F Error → Type 0) → (F → Option ℤ) → Option F × Option F × Option F → Type 0
AreHeld gives number held = HoldsFirst gives number folders held.0 × HoldsFirst gives number folders held.1 × HoldsFirst gives number folders held.2
