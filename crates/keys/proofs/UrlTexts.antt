-- A text of letters, digits, `-` and `_` is written in JSON without escapes.
use Rattle.std.proofs.Common.{◌≡◌, ◌<◌, ◌≤◌, ℕ, true, nat_lt, List, [], ◌∷◌, ◌++◌, refl, ap, ap₂, arith}
use Rattle.std.proofs.lemmas.Bool.{and_from, lt-ltb}
use Rattle.std.proofs.lemmas.Bool.Decides.{nat_tests}
use Rattle.std.specs.List.{AllByRecursion}
use Rattle.json.proofs.Printed.Strings.{escape_byte_plain}
use Rattle.json.proofs.Printed.Utf8.{are_ascii, IsUtf8-are_ascii}
use Rattle.json.specs.Print.{escape}
use Rattle.octets.specs.Base64url.{is_url_character}
use Rattle.keys.specs.JsonTexts.{UrlTextsAreJson}

below_128 : (c : ℕ) → is_url_character c ≡ true → c < 128
below_128 c h = grind (arith, nat_tests)

from_32 : (c : ℕ) → is_url_character c ≡ true → 32 ≤ c
from_32 c h = grind (arith, nat_tests)

no_quote : (c : ℕ) → is_url_character c ≡ true → c ≡ 34 → ⊥
no_quote c h e = grind (arith, nat_tests)

no_backslash : (c : ℕ) → is_url_character c ≡ true → c ≡ 92 → ⊥
no_backslash c h e = grind (arith, nat_tests)

ascii : (text : List ℕ) → AllByRecursion (λ c. is_url_character c ≡ true) text → are_ascii text ≡ true
ascii [] h = refl
ascii (c ∷ text) h = and_from (nat_lt c 128) (are_ascii text) (lt-ltb c 128 (below_128 c h.0)) (ascii text h.1)

unescaped : (text : List ℕ) → AllByRecursion (λ c. is_url_character c ≡ true) text → escape text ≡ text
unescaped [] h = refl
unescaped (c ∷ text) h = ap₂ (λ (a b : List ℕ). a ++ b) (escape_byte_plain c (no_quote c h.0) (no_backslash c h.0) (from_32 c h.0)) (unescaped text h.1)

pub url_texts_are_json : UrlTextsAreJson
url_texts_are_json text h = (IsUtf8-are_ascii text (ascii text h), ap (λ inner. 34 ∷ (inner ++ 34 ∷ [])) (unescaped text h))
