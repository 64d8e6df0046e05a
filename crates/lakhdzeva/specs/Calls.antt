-- What a call leaves: its status, and the places that the caller lent it for an answer.
use Rattle.std.specs.Prelude.{◌≡◌, ◌≢◌, ◌⊎◌, ◌<◌, ◌≤◌, ℕ, List, [], ◌++◌, length, drop, Result, Ok, Err}
use Rattle.octets.specs.declared.refusal.Refusal.{Refusal}
use Rattle.octets.specs.declared.refusal.Refusal.TheVariants.{Usage, Read, Write, Memory, Random, Base64, Json, Number, Key, Form, Header, Unsupported, NoAlgorithm, KeyDoesNotFit, Limit, NotCompact, NotOpened}
use Rattle.octets.specs.Outcomes.{◌>>=◌}
use Rattle.octets.specs.Plan.{OutputTexts}
use Rattle.lakhdzeva.specs.Answers.{SignedPayload}

-- ---- the status (docs/SPECIFICATION.md "Refusals")

-- the number of a refusal
abbrev pub number_of : Refusal → ℕ
number_of Usage = 1
number_of Read = 2
number_of Write = 3
number_of Memory = 4
number_of Random = 5
number_of Base64 = 6
number_of Json = 7
number_of Number = 8
number_of Key = 9
number_of Form = 10
number_of Header = 11
number_of Unsupported = 12
number_of NoAlgorithm = 13
number_of KeyDoesNotFit = 14
number_of Limit = 15
number_of NotCompact = 16
number_of NotOpened = 17

-- memory ran out, or the answer is this refusal
abbrev pub IsRefused : {W : Type 0} → Result W Refusal → ℕ → Type 0
IsRefused answer status = (status ≡ 4) ⊎ ((refusal : Refusal) × (answer ≡ Err refusal) × (status ≡ number_of refusal))

-- ---- the places (docs/SPECIFICATION.md "Calls for C" 2)

-- the octets of a place before the call and after it, and the length that the call gave
pub record Place : Type 0 where
  pub old : List ℕ
  pub new : List ℕ
  pub count : ℕ

-- The place begins with these octets, its rest is as it was, and the length is theirs.
pub record Holds (place : Place) (octets : List ℕ) : Type 0 where
  pub count : place.count ≡ length octets
  pub fits : length octets ≤ length place.old
  pub front : place.new ≡ octets ++ drop (length octets) place.old

-- ---- the calls (docs/SPECIFICATION.md "Calls for C" 2 and 5)

-- No call has an input that could fail, so status 2 never comes.

-- A call without a place. Status 3 means that a place is too small, so it never has this status.
pub record Tells {W : Type 0} (answer : Result W Refusal) (status : ℕ) : Type 0 where
  pub accepted : status ≡ 0 → (done : W) × (answer ≡ Ok done)
  pub refused : status ≢ 0 → IsRefused answer status
  pub no_place : status ≢ 3
  pub no_read : status ≢ 2

-- With status 0 the place holds exactly the answer. With status 3 the answer has more octets than the place, and the length is theirs. With
-- every other status the answer is this refusal, or memory ran out. Whenever the status is not 0, the place is as it was.
pub record Delivers (answer : Result (List ℕ) Refusal) (place : Place) (status : ℕ) : Type 0 where
  pub given : status ≡ 0 → (octets : List ℕ) × (answer ≡ Ok octets) × Holds place octets
  pub too_small : status ≡ 3 → (octets : List ℕ) × (answer ≡ Ok octets) × (place.count ≡ length octets) × (length place.old < length octets)
  pub refused : status ≢ 0 → status ≢ 3 → IsRefused answer status × (place.count ≡ 0)
  pub untouched : status ≢ 0 → place.new ≡ place.old
  pub no_read : status ≢ 2

-- The same for a payload, with the place of its signer beside it, which is 0 whenever the status is not 0.
pub record DeliversSigned (answer : Result SignedPayload Refusal) (place : Place) (signer status : ℕ) : Type 0 where
  pub payload : Delivers (answer >>= λ signed. Ok signed.payload) place status
  pub named : status ≡ 0 → (signed : SignedPayload) × (answer ≡ Ok signed) × (signer ≡ signed.signer)
  pub none : status ≢ 0 → signer ≡ 0

-- The same for a text and for a content beside it. Neither is written if one place is too small.
pub record DeliversBoth (answer : Result OutputTexts Refusal) (text content : Place) (status : ℕ) : Type 0 where
  pub given : status ≡ 0 → (texts : OutputTexts) × (answer ≡ Ok texts) × Holds text texts.text × Holds content texts.content
  pub too_small : status ≡ 3 → (texts : OutputTexts) × (answer ≡ Ok texts) × (text.count ≡ length texts.text) × (content.count ≡ length texts.content)
      × ((length text.old < length texts.text) ⊎ (length content.old < length texts.content))
  pub refused : status ≢ 0 → status ≢ 3 → IsRefused answer status × (text.count ≡ 0) × (content.count ≡ 0)
  pub untouched : status ≢ 0 → (text.new ≡ text.old) × (content.new ≡ content.old)
  pub no_read : status ≢ 2
