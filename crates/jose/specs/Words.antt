-- What the program's words ask for.
use Rattle.std.specs.Prelude.{ℕ, ◌&&◌, Bool, true, false, not, nat_eq, nat_le, List, [], ◌∷◌, map, Option, count_by, is_some, codes, Result, Ok, Err, find}
use Rattle.std.specs.Option.{ok_or, option_and_then, option_map_or}
use Rattle.std.specs.Str.{bytes_eq}
use Rattle.clap.specs.Words.{Text}
use Rattle.octets.specs.declared.refusal.Refusal.{Refusal}
use Rattle.octets.specs.declared.refusal.Refusal.TheVariants.{Usage}
use Rattle.octets.specs.Outcomes.{◌>>=◌, needs}
use Rattle.jose.specs.declared.words.table.Role.{Role}
use Rattle.jose.specs.declared.words.table.Role.TheVariants.{Hash, Json, Keys, Streamed, Octets, Output, Secret, MadeKey}
use Rattle.jose.specs.declared.words.table.Command.TheVariants.{JwkGen, JwkThp, B64Enc, B64Dec, JwsSig, JwsVer, JwsFmt, JweEnc, JweDec, JweFmt}
use Rattle.jose.specs.Commands.{OptionEntry, CommandEntry, option, row_of}
use Rattle.jose.specs.Invocations.{InvocationView, Settings, value_at, hash_named}
use Rattle.jose.specs.Reading.{settings_read}

-- the table of commands
unfoldable pub commands : List CommandEntry
commands = map row_of (JwkGen ∷ JwkThp ∷ B64Enc ∷ B64Dec ∷ JwsSig ∷ JwsVer ∷ JwsFmt ∷ JweEnc ∷ JweDec ∷ JweFmt ∷ [])

abbrev pub is_input : Role → Bool
is_input Json = true
is_input Keys = true
is_input Streamed = true
is_input Octets = true
is_input other = false

abbrev pub is_output : Role → Bool
is_output Output = true
is_output Secret = true
is_output MadeKey = true
is_output other = false

abbrev pub has_words : Text → Text → CommandEntry → Bool
has_words noun verb entry = bytes_eq entry.noun noun && bytes_eq entry.verb verb

-- the command of the table with these two words
abbrev pub command_named : Text → Text → Option CommandEntry
command_named noun verb = find (has_words noun verb) commands

-- ---- standard input and output

abbrev pub is_dash : Option Text → Bool
is_dash value = option_map_or (λ text. bytes_eq text (codes "-")) value false

-- the option's role passes the test, and its value is `-`
abbrev pub names_standard : (Role → Bool) → Settings → OptionEntry → Bool
names_standard is settings option = is option.role && is_dash (value_at option.letter settings)

abbrev pub standard_count : (Role → Bool) → List OptionEntry → Settings → ℕ
standard_count is options settings = count_by (names_standard is settings) options

-- ---- the words

-- if the option is for a hash, its value names one of the four
abbrev pub is_served : Role → Option Text → Bool
is_served Hash value = is_some (option_and_then hash_named value)
is_served other value = true

abbrev pub unserved_count : List OptionEntry → Settings → ℕ
unserved_count options settings = count_by (λ option. not (is_served option.role (value_at option.letter settings))) options

-- The first two words select the command, and the others are its options. At most one input is standard input, at most one output is
-- standard output, and an option for a hash names one of the four.
unfoldable pub invocation_of : List Text → Result InvocationView Refusal
invocation_of (noun ∷ (verb ∷ words)) = do
  entry ← ok_or (command_named noun verb) Usage
  settings ← settings_read entry.options words
  ok ← needs (nat_le (standard_count is_input entry.options settings) 1) Usage
  ok ← needs (nat_le (standard_count is_output entry.options settings) 1) Usage
  ok ← needs (nat_eq (unserved_count entry.options settings) 0) Usage
  Ok (record { command = entry.command; options = settings })
invocation_of words = Err Usage
