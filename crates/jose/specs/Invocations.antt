-- An invocation as contracts see it.
use Rattle.std.specs.Prelude.{ℕ, ◌==◌, List, [], ◌∷◌, map, find, codes, Option, option_map, string_bytes}
use Rattle.std.specs.Option.{option_and_then}
use Rattle.std.specs.Str.{byte, bytes_eq}
use Rattle.clap.specs.Words.{Text}
use Rattle.prf.specs.declared.digests.HashAlg.{HashAlg}
use Rattle.prf.specs.declared.digests.HashAlg.TheVariants.{S224, S256, S384, S512}
use Rattle.jose.specs.declared.words.table.Command.{Command}
use Rattle.jose.specs.declared.words.invocation.Setting.{Setting}
use Rattle.jose.specs.declared.words.invocation.Invocation.{Invocation}

-- ---- the options of an invocation (docs/SPECIFICATION.md "Commands")

-- the letter and the value of each option that was given or has a default
abbrev pub Settings : Type 0
Settings = List (ℕ × Text)

pub record InvocationView : Type 0 where
  pub command : Command
  pub options : Settings

abbrev pub settings_view : List Setting → Settings
settings_view = map (λ setting. (setting.letter, string_bytes setting.value))

abbrev pub invocation_view : Invocation → InvocationView
invocation_view invocation = record { command = invocation.command; options = settings_view invocation.options.items }

-- the value of the option with this letter
abbrev pub value_at : ℕ → Settings → Option Text
value_at letter settings = option_map (λ setting. setting.1) (find (λ setting. setting.0 == letter) settings)

-- ---- the hash that `-a` names (docs/SPECIFICATION.md "Commands")

abbrev pub hash_name : HashAlg → Text
hash_name S224 = codes "S224"
hash_name S256 = codes "S256"
hash_name S384 = codes "S384"
hash_name S512 = codes "S512"

abbrev pub hash_algs : List HashAlg
hash_algs = S224 ∷ S256 ∷ S384 ∷ S512 ∷ []

-- the hash of this name
unfoldable pub hash_named : Text → Option HashAlg
hash_named name = find (λ hash. bytes_eq name (hash_name hash)) hash_algs

abbrev pub hash_asked : Settings → Option HashAlg
hash_asked settings = option_and_then hash_named (value_at (byte "a") settings)
