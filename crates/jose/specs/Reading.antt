-- The settings in a command's words, as a simple command of `clap` reads them.
use Rattle.std.specs.Prelude.{◌≡◌, ◌≢◌, ◌⊎◌, ℕ, List, [], ◌∷◌, Option, Some, None, codes, Bool, true, false, if◌then◌else◌, Result, Ok}
use Rattle.std.specs.Str.{bytes_eq}
use Rattle.clap.specs.Words.{App, Kinds, Row, Rule, Text, fault_of, first_of, matches_of, new_app, new_rule, with_rule}
use Rattle.clap.specs.declared.builder.ArgAction.TheVariants.{Set, SetTrue}
use Rattle.clap.specs.declared.error.ErrorKind.{ErrorKind}
use Rattle.clap.specs.declared.error.ErrorKind.TheVariants.{OutOfMemory}
use Rattle.octets.specs.declared.refusal.Refusal.{Refusal}
use Rattle.octets.specs.declared.refusal.Refusal.TheVariants.{Memory, Usage}
use Rattle.octets.specs.Outcomes.{◌>>=◌, needs}
use Rattle.jose.specs.Commands.{OptionEntry, Takes, flag, required, optional, default}
use Rattle.jose.specs.Invocations.{Settings}

-- ---- the command of `clap`

abbrev pub with_takes : Takes → Rule → Rule
with_takes flag rule = record rule { action = Some SetTrue }
with_takes required rule = record rule { action = Some Set; required = true }
with_takes optional rule = record rule { action = Some Set }
with_takes (default text) rule = record rule { action = Some Set; defaults = text ∷ [] }

-- the argument of `clap` for an option
abbrev pub rule_for : OptionEntry → Rule
rule_for option = with_takes option.takes (record (new_rule option.name) { short = Some option.letter })

abbrev pub with_options : List OptionEntry → App → App
with_options [] app = app
with_options (option ∷ options) app = with_options options (with_rule app (rule_for option))

-- a command whose words do not begin with a program's name, and for which `-h` and `--help` are words like any other
abbrev pub bare : App
bare =
    let app = new_app (codes "jose") in
    record app { top = record app.top { no_binary_name = true; disable_help_flag = true } }

abbrev pub app_for : List OptionEntry → App
app_for options = with_options options bare

-- ---- what it reads

-- a flag that was given has the value `true`
abbrev pub flag_value : Option Text → Option Text
flag_value None = None
flag_value (Some value) = if bytes_eq value (codes "true") then Some value else None

abbrev pub value_given : Takes → Option Text → Option Text
value_given flag value = flag_value value
value_given required value = value
value_given optional value = value
value_given (default text) value = value

-- the settings of the options after this one, with its own in front if it has a value
abbrev pub setting_before : ℕ → Option Text → Settings → Settings
setting_before letter None settings = settings
setting_before letter (Some value) settings = (letter, value) ∷ settings

-- the settings that `clap` found, in the order of the options
abbrev pub settings_of : List OptionEntry → List Row → Settings
settings_of [] rows = []
settings_of (option ∷ options) rows =
    setting_before option.letter (value_given option.takes (first_of option.name rows)) (settings_of options rows)

abbrev pub is_faultless : Kinds → Bool
is_faultless [] = true
is_faultless (kind ∷ kinds) = false

-- the settings in the words, or `Usage` if `clap` finds a fault in them
unfoldable pub settings_read : List OptionEntry → List Text → Result Settings Refusal
settings_read options words = do
  ok ← needs (is_faultless (fault_of (app_for options) words)) Usage
  Ok (settings_of options (matches_of (app_for options) words))

-- the refusal for this kind of error of `clap`: Memory if memory ran out, and otherwise Usage
abbrev pub IsRefusalFor : ErrorKind → Refusal → Type 0
IsRefusalFor kind refusal = ((kind ≡ OutOfMemory) × (refusal ≡ Memory)) ⊎ ((kind ≢ OutOfMemory) × (refusal ≡ Usage))
