-- What a parse by `clap` says about the words.
use Rattle.std.proofs.Common.{◌≡◌, List, [], ◌∷◌, Result, Ok, Err, inl, inr, ap, sym, true, false}
use Rattle.clap.specs.Words.{HasKind, Kinds, Text, fault_of, kind_of, matches_of}
use Rattle.clap.specs.declared.error.Error.{Error}
use Rattle.octets.specs.declared.refusal.Refusal.{Refusal}
use Rattle.octets.specs.declared.refusal.Refusal.TheVariants.{Usage}
use Rattle.octets.specs.Outcomes.{◌>>=◌, needs, is_external}
use Rattle.octets.specs.Code.Results.{is_memory}
use Rattle.jose.specs.Commands.{OptionEntry}
use Rattle.jose.specs.Reading.{IsRefusalFor, app_for, is_faultless, settings_of, settings_read}

-- `clap` found no fault.
pub accepted : (options : List OptionEntry) (words : List Text) → fault_of (app_for options) words ≡ []
    → settings_read options words ≡ Ok (settings_of options (matches_of (app_for options) words))
unfolding settings_read
accepted options words none = ap (λ (kinds : Kinds). needs (is_faultless kinds) Usage >>= λ ok. Ok (settings_of options (matches_of (app_for options) words)))
    none

refused_by : {A : Type 0} (settings : Result A Refusal) (kinds : Kinds) (e : Error) (r : Refusal) → HasKind kinds e → IsRefusalFor (kind_of e) r
    → is_memory r ≡ false → ((needs (is_faultless kinds) Usage >>= λ ok. settings) ≡ Err r) × (is_external r ≡ false)
refused_by settings kinds e r h (inl memory) other = let no : is_memory r ≡ true = ap is_memory memory.1 in absurd cc
refused_by settings kinds e r (inl memory) (inr usage) other = absurd (usage.0 memory)
refused_by settings [] e r (inr among) (inr usage) other = absurd among
refused_by settings (k ∷ ks) e r (inr among) (inr usage) other = (ap Err (sym usage.1), ap is_external usage.1)

-- `clap` found a fault, or memory ran out.
pub refused : (options : List OptionEntry) (words : List Text) (e : Error) (r : Refusal) → HasKind (fault_of (app_for options) words) e
    → IsRefusalFor (kind_of e) r
    → is_memory r ≡ false → (settings_read options words ≡ Err r) × (is_external r ≡ false)
unfolding settings_read
refused options words = refused_by (Ok (settings_of options (matches_of (app_for options) words))) (fault_of (app_for options) words)
