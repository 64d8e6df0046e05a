-- The number that a word of digits writes.
use Rattle.std.proofs.Common.{◌≡◌, ◌<◌, ◌^◌, ℕ, ◌&&◌, ◌==◌, true, List, [], ◌∷◌, length, nat_le, not, slice_index, Result, Ok, refl, ap, ◌∙◌, arith}
use Rattle.std.proofs.lemmas.Bool.{and_parts, leb-true}
use Rattle.std.proofs.lemmas.Str.Parse.{digits_value_short, numerals_by_value, parse_gives, tells_all_ascii_digits}
use Rattle.std.specs.Char.{is_ascii_digit}
use Rattle.std.specs.List.{list_all}
use Rattle.std.specs.Str.{all_ascii_digits}
use Rattle.std.specs.Str.Parse.{ParsesUnsigned, digits_value}
use Rattle.tools.specs.Words.{is_number}

digits_are : (text : List ℕ) → all_ascii_digits text ≡ list_all is_ascii_digit text
digits_are [] = refl
digits_are (octet ∷ octets) = ap (λ rest. is_ascii_digit octet && rest) (digits_are octets)

some : (text : List ℕ) → not (length text == 0) ≡ true → 0 < length text
some [] h = cc h
some (octet ∷ octets) h = omega arith

-- std reads a word that is a number as the number that its digits write.
pub number_is : {E : Type 0} (text : List ℕ) (result : Result ℕ E) → ParsesUnsigned 64 10 text result → is_number text ≡ true
    → result ≡ Ok (digits_value 10 text)
number_is text result parses h =
    let numerals = numerals_by_value (λ digits. all_ascii_digits digits ≡ true) tells_all_ascii_digits in
    let parts = and_parts ((nat_le (length text) 3 && not (length text == 0)) && not (slice_index text 0 == 48)) (list_all is_ascii_digit text) h in
    let front = and_parts (nat_le (length text) 3 && not (length text == 0)) (not (slice_index text 0 == 48)) parts.0 in
    let lengths = and_parts (nat_le (length text) 3) (not (length text == 0)) front.0 in
    let digits : all_ascii_digits text ≡ true = digits_are text ∙ parts.1 in
    let small : digits_value 10 text < 10 ^ 3 = digits_value_short numerals text 3 digits (leb-true (length text) 3 lengths.0) in
    parse_gives numerals 64 text result parses digits (some text lengths.1) (omega (arith, small))
