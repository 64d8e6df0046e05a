-- Settings one by one, and by the letters that find them.
use Rattle.std.proofs.Common.{◌≡◌, ℕ, ◌==◌, List, [], ◌++◌, Option, Some, None, option_map, string_bytes, refl, ap, ◌∙◌, sym}
use Rattle.std.specs.List.{find}
use Rattle.clap.specs.Words.{Text}
use Rattle.jose.specs.declared.words.table.Kind.TheVariants.{Flag}
use Rattle.jose.specs.declared.words.table.OptionRow.{OptionRow}
use Rattle.jose.specs.declared.words.table.Role.TheVariants.{Json}
use Rattle.jose.specs.declared.words.invocation.Setting.{Setting}
use Rattle.jose.specs.Invocations.{settings_view, value_at}
use Rattle.jose.specs.Reading.{setting_before}
use Rattle.jose.proofs.Finding.{find-map, option_map-option_map}

-- a setting's letter and value
abbrev pair_of : Setting → ℕ × Text
pair_of setting = (setting.letter, string_bytes setting.value)

pub value_found : (letter : ℕ) (settings : List Setting)
    → value_at letter (settings_view settings) ≡ option_map (λ setting. string_bytes setting.value) (find (λ setting. setting.letter == letter) settings)
value_found letter settings =
    ap (option_map (λ (p : ℕ × Text). p.1)) (find-map (λ p. p.0 == letter) pair_of settings)
    ∙ sym (option_map-option_map pair_of (λ p. p.1) (find (λ setting. setting.letter == letter) settings))

pub setting_before-append : (letter : ℕ) (value : Option Text) (more : List (ℕ × Text))
    → setting_before letter value [] ++ more ≡ setting_before letter value more
setting_before-append letter None more = refl
setting_before-append letter (Some v) more = refl

-- the option that is read past the end of a command's options
abbrev pub no_option : OptionRow
no_option = record { 0 = 0; 1 = record { ref_ptr = (0, 0); now = [] }; 2 = Flag; 3 = Json }
