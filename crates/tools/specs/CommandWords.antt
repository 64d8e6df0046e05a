-- Why jose refuses words: a walk over them by the table of its commands (docs/SPECIFICATION.md "Commands" and "Tools").
use Rattle.std.specs.Prelude.{ℕ, ◌+◌, ◌&&◌, ◌==◌, ◌++◌, Bool, true, false, not, length, nat_lt, slice_index, drop, find, is_none, List, [], ◌∷◌, Option, Some, None, option_map, if◌then◌else◌, Result, Ok, Err}
use Rattle.std.specs.List.{count_by, list_any}
use Rattle.std.specs.Option.{option_or}
use Rattle.std.specs.Str.{byte}
use Rattle.jose.specs.Commands.{OptionEntry, Takes, flag, required, default}
use Rattle.jose.specs.Invocations.{Settings, value_at}
use Rattle.jose.specs.declared.words.table.Role.{Role}
use Rattle.jose.specs.Words.{is_dash, is_input, is_output, is_served}
use Rattle.tools.specs.declared.command_words.WordFault.{WordFault}
use Rattle.tools.specs.declared.command_words.WordFault.TheVariants.{Long, Stray, Unknown, Twice, NoValue, Missing, Inputs, Outputs, NoHash}

-- ---- steps (docs/SPECIFICATION.md "Tools")

-- The first fault decides.
infixl 10 ◌>>=◌
abbrev pub ◌>>=◌ : {A B : Type 0} → Result A WordFault → (A → Result B WordFault) → Result B WordFault
(Ok x) >>= f = f x
(Err fault) >>= f = Err fault

-- ---- the walk (docs/SPECIFICATION.md "Commands" 6)

-- between two words: what was given, the option that waits for its value, and whether `--` was met
pub record Walk : Type 0 where
  pub given : Settings
  pub waiting : Option ℕ
  pub is_ended : Bool

abbrev pub start : Walk
start = record { given = []; waiting = None; is_ended = false }

abbrev pub with_value : ℕ → List ℕ → Walk → Walk
with_value letter value walk = record { given = walk.given ++ (letter, value) ∷ []; waiting = None; is_ended = walk.is_ended }

abbrev pub is_given : ℕ → Settings → Bool
is_given letter given = list_any (λ setting. setting.0 == letter) given

-- a value in its option's own word, without an `=` before it
abbrev pub without_equals : List ℕ → List ℕ
without_equals [] = []
without_equals (octet ∷ rest) = if octet == byte "=" then rest else octet ∷ rest

-- What stands behind the letter of an option is its value. If nothing does, the option waits for the next word.
abbrev pub value_behind : ℕ → List ℕ → Walk → Walk
value_behind letter [] walk = record walk { waiting = Some letter }
value_behind letter (octet ∷ rest) walk = with_value letter (without_equals (octet ∷ rest)) walk

-- A flag is there by its letter, and the next letters follow.
abbrev pub taking : ℕ → List ℕ → Takes → Walk → (Walk → Result Walk WordFault) → Result Walk WordFault
taking letter rest flag walk next = next (with_value letter [] walk)
taking letter rest takes walk next = Ok (value_behind letter rest walk)

abbrev pub letter_read : ℕ → List ℕ → Option OptionEntry → Walk → (Walk → Result Walk WordFault) → Result Walk WordFault
letter_read letter rest None walk next = Err (Unknown letter)
letter_read letter rest (Some option) walk next =
    if is_given letter walk.given then Err (Twice letter) else taking letter rest option.takes walk next

-- the letters behind the hyphen of a word
abbrev pub letters_read : List OptionEntry → List ℕ → Walk → Result Walk WordFault
letters_read options [] walk = Ok walk
letters_read options (letter ∷ rest) walk =
    letter_read letter rest (find (λ option. option.letter == letter) options) walk (letters_read options rest)

-- a hyphen and more: `-` alone is no option
abbrev pub is_option : List ℕ → Bool
is_option word = nat_lt 1 (length word) && (slice_index word 0 == byte "-")

-- a word where no option waits for its value
abbrev pub option_read : List OptionEntry → ℕ → List ℕ → Walk → Result Walk WordFault
option_read options at word walk =
    if not (is_option word) then Err (Stray at)
    else if not (slice_index word 1 == byte "-") then letters_read options (drop 1 word) walk
    else if length word == 2 then Ok (record walk { is_ended = true })
    else Err (Long at)

abbrev pub value_read : List OptionEntry → ℕ → List ℕ → Option ℕ → Walk → Result Walk WordFault
value_read options at word None walk = option_read options at word walk
value_read options at word (Some letter) walk = if is_option word then Err (NoValue letter) else Ok (with_value letter word walk)

abbrev pub word_read : List OptionEntry → ℕ → List ℕ → Walk → Result Walk WordFault
word_read options at word walk = if walk.is_ended then Err (Stray at) else value_read options at word walk.waiting walk

-- the words from this place on
abbrev pub words_read : List OptionEntry → ℕ → List (List ℕ) → Walk → Result Walk WordFault
words_read options at [] walk = Ok walk
words_read options at (word ∷ words) walk = word_read options at word walk >>= words_read options (at + 1) words

-- ---- the end of the words (docs/SPECIFICATION.md "Commands" 2)

abbrev pub is_required : Takes → Bool
is_required required = true
is_required other = false

abbrev pub is_missing : Settings → OptionEntry → Bool
is_missing given option = is_required option.takes && is_none (value_at option.letter given)

-- the default of an option that has one
abbrev pub default_of : Takes → Option (List ℕ)
default_of (default text) = Some text
default_of other = None

-- the value that was given, or the default
abbrev pub value_of : Settings → OptionEntry → Option (List ℕ)
value_of given option = option_or (value_at option.letter given) (default_of option.takes)

abbrev pub is_standard : (Role → Bool) → Settings → OptionEntry → Bool
is_standard is given option = is option.role && is_dash (value_of given option)

abbrev pub is_no_hash : Settings → OptionEntry → Bool
is_no_hash given option = not (is_served option.role (value_of given option))

abbrev pub missing_fault : List OptionEntry → Settings → Option WordFault
missing_fault options given = option_map (λ option. Missing option.letter) (find (is_missing given) options)

abbrev pub hash_fault : List OptionEntry → Settings → Option WordFault
hash_fault options given = option_map (λ option. NoHash option.letter) (find (is_no_hash given) options)

-- two inputs or two outputs that are a standard stream, or a hash that is none of the four
abbrev pub stream_fault : List OptionEntry → Settings → Option WordFault
stream_fault options given =
    if nat_lt 1 (count_by (is_standard is_input given) options) then Some Inputs
    else if nat_lt 1 (count_by (is_standard is_output given) options) then Some Outputs
    else hash_fault options given

abbrev pub end_fault : List OptionEntry → Option ℕ → Settings → Option WordFault
end_fault options (Some letter) given = Some (NoValue letter)
end_fault options None given = option_or (missing_fault options given) (stream_fault options given)

abbrev pub fault_after : List OptionEntry → Result Walk WordFault → Option WordFault
fault_after options (Ok walk) = end_fault options walk.waiting walk.given
fault_after options (Err fault) = Some fault

-- Why a command with these options refuses the words after it, if it does.
abbrev pub words_fault : List OptionEntry → List (List ℕ) → Option WordFault
words_fault options words = fault_after options (words_read options 0 words start)
