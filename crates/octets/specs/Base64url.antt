-- Base64url without padding (RFC 4648 section 5). A text is good if it is the encoding of octets. These are its meaning.
use Rattle.std.specs.Prelude.{◌≡◌, ◌↔◌, ℕ, ◌+◌, ◌-◌, ◌*◌, ◌/◌, ◌%◌, ◌^◌, ◌==◌, ◌&&◌, ◌||◌, nat_le, Bool, true, List, length, map, take, slice_index, codes, Result, Ok, Err}
use Rattle.std.specs.List.{AllByRecursion, range_with_len}
use Rattle.std.specs.Str.{byte}
use Rattle.base64.specs.declared.decode.DecodeError.{DecodeError}
use Rattle.base64.specs.Engines.{url_safe_no_pad}
use Rattle.base64.specs.GeneralPurpose.{encode_of, decode_of}
use Rattle.octets.specs.Octets.{IsOctets}
use Rattle.octets.specs.declared.refusal.Refusal.{Refusal}
use Rattle.octets.specs.declared.refusal.Refusal.TheVariants.{Base64}

-- the text of the octets (RFC 7515 section 2, RFC 4648 section 5)
unfoldable pub base64url : List ℕ → List ℕ
base64url octets = encode_of url_safe_no_pad octets

-- a text that is not good is refused (docs/SPECIFICATION.md "Octets and texts")
abbrev pub or_base64 : Result (List ℕ) DecodeError → Result (List ℕ) Refusal
or_base64 (Ok octets) = Ok octets
or_base64 (Err e) = Err Base64

-- the meaning of the text; `DecodesExactly` says which one it is (RFC 4648 sections 3.3, 3.5 and 5)
unfoldable pub decoded : List ℕ → Result (List ℕ) Refusal
decoded text = or_base64 (decode_of url_safe_no_pad text)

-- the octets in whole groups of three, each of which is four characters of text (RFC 4648 section 4)
unfoldable pub whole_groups : List ℕ → List ℕ
whole_groups octets = take (length octets / 3 * 3) octets

-- octet strings with the same text are equal (docs/SPECIFICATION.md "Octets and texts")
abbrev pub TextsAreDistinct : Type 0
TextsAreDistinct = (x y : List ℕ) → IsOctets x → IsOctets y → base64url x ≡ base64url y → x ≡ y

-- a text decodes to the octets whose text it is, and every other text is refused (RFC 4648 section 3.5)
pub record DecodesExactly : Type 0 where
  pub round_trip : (x : List ℕ) → IsOctets x → decoded (base64url x) ≡ Ok x
  pub meaning : (text x : List ℕ) → IsOctets text → IsOctets x → (decoded text ≡ Ok x) ↔ (text ≡ base64url x)
  pub refusal : (text : List ℕ) (r : Refusal) → decoded text ≡ Err r → r ≡ Base64

-- the characters of the values 0 to 63 in order (table 2)
abbrev pub url_alphabet : List ℕ
url_alphabet = codes "ABCDEFGHIJKLMNOPQRSTUVWXYZabcdefghijklmnopqrstuvwxyz0123456789-_"

-- the six bits from bit 6 * i on, as a number; zero bits follow the last octet (RFC 4648 section 4)
abbrev pub six_bits : List ℕ → ℕ → ℕ
six_bits octets i = (slice_index octets (6 * i / 8) * 256 + slice_index octets (6 * i / 8 + 1)) / 2 ^ (10 - 6 * i % 8) % 64

-- a text is the characters of the octets' groups of six bits, in order (RFC 4648 sections 4 and 5)
abbrev pub SpellsSixBits : Type 0
SpellsSixBits = (x : List ℕ) → IsOctets x
    → base64url x ≡ map (λ i. slice_index url_alphabet (six_bits x i)) (range_with_len 0 ((8 * length x + 5) / 6))

-- a letter, a digit, `-` or `_` (table 2)
abbrev pub is_url_character : ℕ → Bool
is_url_character c =
    (nat_le (byte "A") c && nat_le c (byte "Z")) || (nat_le (byte "a") c && nat_le c (byte "z"))
    || (nat_le (byte "0") c && nat_le c (byte "9")) || (c == byte "-") || (c == byte "_")

-- a text has only these characters, and so no dot, quote, backslash or line end (RFC 4648 section 5)
abbrev pub HasUrlCharacters : Type 0
HasUrlCharacters = (x : List ℕ) → IsOctets x → AllByRecursion (λ c. is_url_character c ≡ true) (base64url x)
