-- Contents that are read in pieces: what waits for more, and what a transform writes of them.
use Rattle.std.specs.Prelude.{◌≡◌, ℕ, ◌-◌, ◌*◌, ◌/◌, ◌^◌, false, List, [], ◌++◌, length, take, drop, Result, Ok, Err}
use Rattle.base64.specs.Engines.{url_safe_no_pad}
use Rattle.octets.specs.Devices.{appended}
use Rattle.octets.specs.Octets.{IsOctets}
use Rattle.octets.specs.declared.refusal.Refusal.{Refusal}
use Rattle.octets.specs.Base64url.{base64url, whole_groups}
use Rattle.std.proofs.Common.{refl}
use Rattle.octets.specs.Plan.{OutputTexts, Plan, plan_map, begun}
use Rattle.octets.specs.Encoding.{encoding, octets_of_groups, decoding}
use Rattle.base64.proofs.EngineFacts.{encode_of-nil}

-- the octets after the whole groups of three
unfoldable pub part_group : List ℕ → List ℕ
part_group octets = drop (length octets / 3 * 3) octets

-- the whole groups of four characters before the last two characters, which may be a line end
unfoldable pub settled : List ℕ → List ℕ
settled text = take ((length text - 2) / 4 * 4) text

-- the characters after the groups that `settled` has
unfoldable pub unsettled : List ℕ → List ℕ
unsettled text = drop ((length text - 2) / 4 * 4) text

-- the octets that `decoding` gives, but a group is fixed only with two characters after it, which may be the line end
abbrev pub settling : Plan (List ℕ)
settling = record { whole = decoding.whole; fixed = λ front. octets_of_groups (settled front) }

pub settling_starts : settling.fixed [] ≡ []
unfolding settled octets_of_groups
settling_starts = refl

-- the plan with the text `before` in front of what is written
abbrev pub behind : List ℕ → Plan (List ℕ) → Plan (List ℕ)
behind before plan = plan_map (λ text. before ++ text) plan

-- Every content that begins with p is refused.
abbrev pub RefusesFrom : Plan (List ℕ) → List ℕ → Refusal → Type 0
RefusesFrom plan p e = (rest : List ℕ) → IsOctets (p ++ rest) → plan.whole (p ++ rest) ≡ Err e

-- an empty content fixes no text
pub encoding_starts : encoding.fixed [] ≡ []
unfolding base64url whole_groups
encoding_starts = encode_of-nil url_safe_no_pad

-- a content that is written as it is
abbrev pub as_it_is : Plan (List ℕ)
as_it_is = record { whole = λ content. Ok content; fixed = λ front. front }

-- what this beginning of the content fixes
abbrev pub fixed_by : Result (Plan OutputTexts) Refusal → List ℕ → OutputTexts
fixed_by plan front = begun plan (record { octets = front; ended = false })

-- an input over a reader fails after this many octets
abbrev pub most_octets : ℕ
most_octets = 2 ^ 62

-- the list has grown at its end, or not at all
abbrev pub Extends : List ℕ → List ℕ → Type 0
Extends old new = new ≡ old ++ appended old new
