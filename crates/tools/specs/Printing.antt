-- Texts that a terminal shows as they are (docs/SPECIFICATION.md "Tools").
use Rattle.std.specs.Prelude.{ℕ, ◌+◌, ◌/◌, ◌%◌, ◌&&◌, ◌||◌, ◌==◌, nat_le, nat_lt, Bool, List, [], ◌∷◌, ◌++◌, if◌then◌else◌}
use Rattle.std.specs.Str.{byte}

-- ---- printable texts (docs/SPECIFICATION.md "Tools")

-- a hexadecimal digit, in a small letter
abbrev pub hex_digit : ℕ → ℕ
hex_digit n = if nat_lt n 10 then n + 48 else n + 87

abbrev pub is_printable : ℕ → Bool
is_printable octet = nat_le 32 octet && nat_le octet 126

-- Every other octet is \xNN, since it could change what a terminal shows.
abbrev pub printable_octet : ℕ → List ℕ
printable_octet octet = if is_printable octet then octet ∷ [] else 92 ∷ 120 ∷ hex_digit (octet / 16 % 16) ∷ hex_digit (octet % 16) ∷ []

abbrev pub printable : List ℕ → List ℕ
printable [] = []
printable (octet ∷ octets) = printable_octet octet ++ printable octets

-- lines in printable form, each with a line feed
abbrev pub printed : List (List ℕ) → List ℕ
printed [] = []
printed (line ∷ lines) = printable line ++ byte "\n" ∷ printed lines

-- printable ASCII or a line feed
abbrev pub is_shown : ℕ → Bool
is_shown octet = is_printable octet || (octet == byte "\n")
