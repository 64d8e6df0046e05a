-- The value that octets read as.
use Rattle.std.proofs.Common.{◌≡◌, ℕ, List, Bool, true, false, Some, None, Ok, Err, cond, refl, ap, ◌∙◌}
use Rattle.std.proofs.lemmas.Str.{IsUtf8-from_is_utf8, is_utf8-from_IsUtf8}
use Rattle.std.specs.Option.{ok_or}
use Rattle.std.specs.Str.{IsUtf8, is_utf8}
use Rattle.serde_json.specs.Data.{Data}
use Rattle.serde_json.specs.Read.{read}
use Rattle.octets.specs.declared.refusal.Refusal.TheVariants.{Json}
use Rattle.keys.specs.Json.{json_reading}

reading_by : (b : Bool) (octets : List ℕ) → is_utf8 octets ≡ b → json_reading octets ≡ cond b (ok_or (read octets) Json) (Err Json)
unfolding json_reading
reading_by b octets e = ap (λ t. cond t (ok_or (read octets) Json) (Err Json)) e

pub reading_of_text : (octets : List ℕ) (value : Data) → IsUtf8 octets → read octets ≡ Some value → json_reading octets ≡ Ok value
reading_of_text octets value utf8 is = reading_by true octets (is_utf8-from_IsUtf8 octets utf8) ∙ ap (λ o. ok_or o Json) is

-- Octets that are not UTF-8, or not JSON, are refused as Json.
no_reading_by : (b : Bool) (octets : List ℕ) → is_utf8 octets ≡ b → (IsUtf8 octets → read octets ≡ None) → json_reading octets ≡ Err Json
no_reading_by true octets e none = reading_by true octets e ∙ ap (λ o. ok_or o Json) (none (IsUtf8-from_is_utf8 octets e))
no_reading_by false octets e none = reading_by false octets e

pub no_reading : (octets : List ℕ) → (IsUtf8 octets → read octets ≡ None) → json_reading octets ≡ Err Json
no_reading octets none = no_reading_by (is_utf8 octets) octets refl none
