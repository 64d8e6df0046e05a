-- Splitting a text at its dots and joining parts with dots undo each other.
use Rattle.std.proofs.Common.{◌≡◌, ℕ, ◌+◌, List, [], ◌∷◌, ◌++◌, length, take, drop, Bool, true, false, cond, position, Some, None, Ok, refl, sym, ap, ◌∙◌, arith}
use Rattle.std.proofs.Math.Seq.{take-append_seam, drop-append-add}
use Rattle.std.proofs.lemmas.Bool.{eqb-true}
use Rattle.std.proofs.lemmas.Iterator.Adapters.{position_from-zero}
use Rattle.std.specs.List.{position_from, AllByRecursion}
use Rattle.std.specs.Option.{ok_or}
use Rattle.octets.specs.declared.refusal.Refusal.TheVariants.{Form}
use Rattle.octets.specs.Outcomes.{◌>>=◌}
use Rattle.octets.specs.Base64url.{is_url_character}
use Rattle.objects.specs.Texts.{is_dot, split_at_dot, three_parts}
use Rattle.objects.proofs.Characters.{IsUrlText}

-- ---- texts without a dot

abbrev pub HasNoDot : List ℕ → Type 0
HasNoDot text = AllByRecursion (λ c. is_dot c ≡ false) text

no_dot_by : (c : ℕ) (b : Bool) → is_dot c ≡ b → is_url_character c ≡ true → b ≡ false
no_dot_by c false e h = refl
no_dot_by c true e h =
    let dot : c ≡ 46 = eqb-true c 46 e in
    let url : is_url_character 46 ≡ true = sym (ap is_url_character dot) ∙ h in
    cc url

pub all_no_dot : (xs : List ℕ) → IsUrlText xs → HasNoDot xs
all_no_dot [] h = tt
all_no_dot (x ∷ xs) h = (no_dot_by x (is_dot x) refl h.0, all_no_dot xs h.1)

-- ---- the place of the first dot

from_zero : (xs : List ℕ) → position is_dot xs ≡ position_from is_dot 0 xs
from_zero xs = position_from-zero is_dot xs

no_position : (i : ℕ) (xs : List ℕ) → HasNoDot xs → position_from is_dot i xs ≡ None
no_position i [] h = refl
no_position i (x ∷ xs) h = ap (λ b. cond b (Some i) (position_from is_dot (i + 1) xs)) h.0 ∙ no_position (i + 1) xs h.1

position_after : (i : ℕ) (xs ys : List ℕ) → HasNoDot xs → position_from is_dot i (xs ++ 46 ∷ ys) ≡ Some (i + length xs)
position_after i [] ys h = ap Some (omega arith)
position_after i (x ∷ xs) ys h =
    ap (λ b. cond b (Some i) (position_from is_dot (i + 1) (xs ++ 46 ∷ ys))) h.0 ∙ position_after (i + 1) xs ys h.1 ∙ ap Some (omega arith)

-- ---- splitting

pub split_of_joined : (xs ys : List ℕ) → HasNoDot xs → split_at_dot (xs ++ 46 ∷ ys) ≡ Ok (xs, ys)
unfolding split_at_dot
split_of_joined xs ys h =
    let here : position is_dot (xs ++ 46 ∷ ys) ≡ Some (length xs) = from_zero (xs ++ 46 ∷ ys) ∙ position_after 0 xs ys h ∙ ap Some (omega arith) in
    let front : take (length xs) (xs ++ 46 ∷ ys) ≡ xs = take-append_seam xs (46 ∷ ys) in
    let back : drop (length xs + 1) (xs ++ 46 ∷ ys) ≡ ys = drop-append-add xs (46 ∷ ys) 1 in
    ap (λ o. ok_or o Form >>= λ i. Ok (take i (xs ++ 46 ∷ ys), drop (i + 1) (xs ++ 46 ∷ ys))) here ∙ rw (front, back) refl

pub three_of_joined : (xs ys zs : List ℕ) → HasNoDot xs → HasNoDot ys → HasNoDot zs → three_parts (xs ++ 46 ∷ (ys ++ 46 ∷ zs)) ≡ Ok (xs, ys, zs)
unfolding three_parts
three_of_joined xs ys zs hx hy hz =
    let first = split_of_joined xs (ys ++ 46 ∷ zs) hx in
    let second = split_of_joined ys zs hy in
    let last : position is_dot zs ≡ None = from_zero zs ∙ no_position 0 zs hz in
    rw (first, second, last) refl
