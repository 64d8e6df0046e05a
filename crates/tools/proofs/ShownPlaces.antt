-- The place that is shown is refused as the first line says.
use Rattle.std.proofs.Common.{◌≡◌, ◌∙◌, ℕ, suc, Bool, true, false, List, [], ◌∷◌, Option, Some, None, find, if◌then◌else◌, refl, ap, sym, arith}
use Rattle.std.proofs.lemmas.Slice.Eq.{bytes_eq-Decides}
use Rattle.std.specs.List.{Contains}
use Rattle.std.specs.Str.{bytes_eq}
use Rattle.octets.specs.declared.refusal.Refusal.{Refusal}
use Rattle.octets.specs.declared.refusal.Refusal.TheVariants.{Usage, Read, Write, Memory, Random, Base64, Json, Number, Key, Form, Header, Unsupported, NoAlgorithm, KeyDoesNotFit, Limit, NotCompact, NotOpened}
use Rattle.octets.specs.Refusals.{refusal_text}
use Rattle.tools.specs.LookLaws.{ShownPlacesAreRefused}
use Rattle.tools.specs.Places.{Place, first_so, is_so}

-- ---- refusals have different texts

abbrev refusals : List Refusal
refusals = Usage ∷ Read ∷ Write ∷ Memory ∷ Random ∷ Base64 ∷ Json ∷ Number ∷ Key ∷ Form ∷ Header ∷ Unsupported ∷ NoAlgorithm ∷ KeyDoesNotFit ∷ Limit ∷ NotCompact ∷ NotOpened ∷ []

abbrev refusal_of_text : List ℕ → Option Refusal
refusal_of_text text = find (λ refusal. bytes_eq (refusal_text refusal) text) refusals

found_by_text : (refusal : Refusal) → refusal_of_text (refusal_text refusal) ≡ Some refusal
found_by_text Usage = refl
found_by_text Read = refl
found_by_text Write = refl
found_by_text Memory = refl
found_by_text Random = refl
found_by_text Base64 = refl
found_by_text Json = refl
found_by_text Number = refl
found_by_text Key = refl
found_by_text Form = refl
found_by_text Header = refl
found_by_text Unsupported = refl
found_by_text NoAlgorithm = refl
found_by_text KeyDoesNotFit = refl
found_by_text Limit = refl
found_by_text NotCompact = refl
found_by_text NotOpened = refl

same_text : (one other : Refusal) → refusal_text one ≡ refusal_text other → Some one ≡ Some other
same_text one other same = sym (found_by_text one) ∙ ap refusal_of_text same ∙ found_by_text other

is_the_same : (so : Refusal) (refusal : Option Refusal) → is_so so refusal ≡ true → refusal ≡ Some so
is_the_same so None is = cc
is_the_same so (Some refusal) is = same_text refusal so ((bytes_eq-Decides (refusal_text refusal) (refusal_text so)).0 is)

-- ---- the first place

same_place : (place : Place) (text : List ℕ) (refusal : Option Refusal) → place.0 ≡ text → place.1 ≡ refusal → place ≡ (text, refusal)
same_place place text refusal text_is refusal_is = ap (λ (t : List ℕ). (t, place.1)) text_is ∙ ap (λ (r : Option Refusal). (text, r)) refusal_is

later : (first place : Place) (places : List Place) → Contains places place → Contains (first ∷ places) place
later first place places c = (suc c.0, omega (arith, c.1), c.2)

first_is_refused : (so : Refusal) (place : Place) (places : List Place) (text : List ℕ) (test : Bool) → is_so so place.1 ≡ test
    → (first_so so places ≡ Some text → Contains places (text, Some so)) → (if test then Some place.0 else first_so so places) ≡ Some text
    → Contains (place ∷ places) (text, Some so)
first_is_refused so place places text true is rest same = (0, omega arith, same_place place text (Some so) (cc) (is_the_same so place.1 is))
first_is_refused so place places text false is rest same = later place (text, Some so) places (rest same)

pub shown_places_are_refused : ShownPlacesAreRefused
unfolding first_so
shown_places_are_refused so [] text shown = cc
shown_places_are_refused so (place ∷ places) text shown =
    first_is_refused so place places text (is_so so place.1) refl (shown_places_are_refused so places text) shown
