-- Contents that are encoded as base64url, and texts that are decoded: the whole result, and what a beginning fixes of it.
use Rattle.std.specs.Prelude.{◌≡◌, ◌≤◌, ℕ, ◌%◌, List, [], ◌∷◌, ◌++◌, length, Result, Ok, Err}
use Rattle.octets.specs.declared.refusal.Refusal.{Refusal}
use Rattle.octets.specs.Base64url.{base64url, decoded, whole_groups}
use Rattle.octets.specs.LineEnds.{without_line_end}
use Rattle.octets.specs.Octets.{IsOctets}
use Rattle.octets.specs.Plan.{Plan, Begins}

-- the text of the content; each group of three octets fixes four characters (RFC 4648 section 4)
abbrev pub encoding : Plan (List ℕ)
encoding = record { whole = λ content. Ok (base64url content); fixed = λ front. base64url (whole_groups front) }

-- ---- decoding (docs/SPECIFICATION.md "Octets and texts" and "Commands", what is left after a refusal)

-- the octets of a group and of the groups after it, or none if the group is no text
abbrev pub and_octets : Result (List ℕ) Refusal → List ℕ → List ℕ
and_octets (Ok octets) more = octets ++ more
and_octets (Err r) more = []

-- the octets of the groups of four characters, up to the first that is no text
unfoldable pub octets_of_groups : List ℕ → List ℕ
octets_of_groups (a ∷ b ∷ c ∷ d ∷ rest) = and_octets (decoded (a ∷ b ∷ c ∷ d ∷ [])) (octets_of_groups rest)
octets_of_groups rest = []

-- the octets of a text with or without a line end; each good group of four characters fixes three octets
abbrev pub decoding : Plan (List ℕ)
decoding = record { whole = λ text. decoded (without_line_end text); fixed = octets_of_groups }

-- x is the longest string of whole groups of octets whose text begins the text.
pub record IsLongestDecoded (text x : List ℕ) : Type 0 where
  pub octets : IsOctets x
  pub groups : length x % 3 ≡ 0
  pub begins : Begins (base64url x) text
  pub longest : (y : List ℕ) → IsOctets y → length y % 3 ≡ 0 → Begins (base64url y) text → length y ≤ length x

-- A beginning of a text fixes this string.
abbrev pub FixesLongest : Type 0
FixesLongest = (text : List ℕ) → IsOctets text → IsLongestDecoded text (octets_of_groups text)
