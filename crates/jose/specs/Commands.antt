-- The commands of the program in one table: the words of each command, and for each option what it takes and names.
use Prim.Native.String.{String}
use Rattle.std.specs.Prelude.{ℕ, ◌==◌, Bool, true, false, List, [], ◌∷◌, Option, is_some, find, codes}
use Rattle.std.specs.Str.{byte}
use Rattle.clap.specs.Words.{Text}
use Rattle.jose.specs.declared.words.table.Command.{Command}
use Rattle.jose.specs.declared.words.table.Command.TheVariants.{JwkGen, JwkThp, B64Enc, B64Dec, JwsSig, JwsVer, JwsFmt, JweEnc, JweDec, JweFmt}
use Rattle.jose.specs.declared.words.table.Role.{Role}
use Rattle.jose.specs.declared.words.table.Role.TheVariants.{Json, Keys, Streamed, Octets, Output, Secret, MadeKey, Hash, Nothing}

-- ---- what a row says (docs/SPECIFICATION.md "Commands")

-- what an option takes: no value, one that must be given, one that may be absent, or one with a default
pub data Takes : Type 0 where
  flag : Takes
  required : Takes
  optional : Takes
  default : Text → Takes

-- An option: its letter, a name that says what it is for, what it takes, and what its value names. crates/jose/src/words/table.rt says more
-- about what it names.
pub record OptionEntry : Type 0 where
  pub letter : ℕ
  pub name : Text
  pub takes : Takes
  pub role : Role

pub record CommandEntry : Type 0 where
  pub command : Command
  pub noun : Text
  pub verb : Text
  pub options : List OptionEntry

abbrev pub option : String → String → Takes → Role → OptionEntry
option letter name takes role = record { letter = byte letter; name = codes name; takes = takes; role = role }

-- a default that is written in the table
abbrev pub else_value : String → Takes
else_value text = default (codes text)

-- ---- the row of each command (docs/SPECIFICATION.md "Commands")

abbrev pub row : Command → String → String → List OptionEntry → CommandEntry
row command noun verb options = record { command = command; noun = codes noun; verb = codes verb; options = options }

abbrev pub row_of : Command → CommandEntry
row_of JwkGen = row JwkGen "jwk" "gen" (
    option "i" "template" required Json ∷
    option "o" "key" (else_value "-") MadeKey ∷
    option "R" "random" optional Octets ∷ [])
row_of JwkThp = row JwkThp "jwk" "thp" (
    option "i" "keys" (else_value "-") Keys ∷
    option "a" "hash" (else_value "S256") Hash ∷
    option "o" "thumbprints" (else_value "-") Output ∷ [])
row_of B64Enc = row B64Enc "b64" "enc" (
    option "I" "octets" (else_value "-") Streamed ∷
    option "o" "text" (else_value "-") Output ∷ [])
row_of B64Dec = row B64Dec "b64" "dec" (
    option "i" "text" (else_value "-") Streamed ∷
    option "O" "octets" (else_value "-") Output ∷ [])
row_of JwsSig = row JwsSig "jws" "sig" (
    option "s" "template" (else_value "{}") Json ∷
    option "I" "payload" (else_value "-") Streamed ∷
    option "k" "keys" required Keys ∷
    option "o" "object" (else_value "-") Output ∷
    option "O" "detached" optional Output ∷
    option "c" "compact" flag Nothing ∷ [])
row_of JwsVer = row JwsVer "jws" "ver" (
    option "i" "object" (else_value "-") Json ∷
    option "I" "detached" optional Octets ∷
    option "k" "keys" required Keys ∷
    option "a" "all" flag Nothing ∷
    option "O" "payload" optional Output ∷ [])
row_of JwsFmt = row JwsFmt "jws" "fmt" (
    option "i" "object" (else_value "-") Json ∷
    option "I" "detached" optional Octets ∷
    option "o" "text" (else_value "-") Output ∷
    option "O" "payload" optional Output ∷
    option "c" "compact" flag Nothing ∷ [])
row_of JweEnc = row JweEnc "jwe" "enc" (
    option "i" "template" (else_value "{}") Json ∷
    option "I" "plaintext" (else_value "-") Streamed ∷
    option "k" "keys" required Keys ∷
    option "o" "object" (else_value "-") Output ∷
    option "O" "detached" optional Output ∷
    option "c" "compact" flag Nothing ∷
    option "R" "random" optional Octets ∷ [])
row_of JweDec = row JweDec "jwe" "dec" (
    option "i" "object" (else_value "-") Json ∷
    option "I" "detached" optional Octets ∷
    option "k" "keys" required Keys ∷
    option "O" "plaintext" (else_value "-") Secret ∷ [])
row_of JweFmt = row JweFmt "jwe" "fmt" (
    option "i" "object" (else_value "-") Json ∷
    option "I" "detached" optional Octets ∷
    option "o" "text" (else_value "-") Output ∷
    option "O" "ciphertext" optional Output ∷
    option "c" "compact" flag Nothing ∷ [])

-- ---- what a role says (docs/SPECIFICATION.md "Commands" 1 to 3)

abbrev pub same_role : Role → Role → Bool
same_role Json Json = true
same_role Keys Keys = true
same_role Streamed Streamed = true
same_role Octets Octets = true
same_role Output Output = true
same_role Secret Secret = true
same_role MadeKey MadeKey = true
same_role Hash Hash = true
same_role Nothing Nothing = true
same_role role other = false

-- the value names JSON, or is the JSON itself
abbrev pub is_json : Role → Bool
is_json Json = true
is_json Keys = true
is_json other = false

-- ---- look-ups (docs/SPECIFICATION.md "Commands")

-- the option of a command with this letter
abbrev pub option_at : String → Command → Option OptionEntry
option_at letter command = find (λ entry. entry.letter == byte letter) (row_of command).options

-- the first option of a command with this role
abbrev pub option_with : Role → Command → Option OptionEntry
option_with role command = find (λ entry. same_role entry.role role) (row_of command).options

abbrev pub has_option : String → Command → Bool
has_option letter command = is_some (option_at letter command)
