-- The characters of a compact text: they do not have JSON form and have no line end.
use Rattle.std.proofs.Common.{◌≡◌, ◌-◌, ◌==◌, ◌||◌, ℕ, zero, suc, List, [], ◌∷◌, ◌++◌, length, slice_index, Bool, true, false, refl, sym, ap, ◌∙◌, append-nil, subst}
use Rattle.std.proofs.lemmas.Bool.{eqb-true}
use Rattle.std.specs.List.{AllByRecursion}
use Rattle.octets.specs.Base64url.{is_url_character}
use Rattle.octets.specs.LineEnds.{without_line_end}
use Rattle.objects.specs.Texts.{is_json_space, is_json_form, between_dots}

-- the text has only letters, digits, `-` and `_`
abbrev pub IsUrlText : List ℕ → Type 0
IsUrlText text = AllByRecursion (λ c. is_url_character c ≡ true) text

-- a letter, a digit, `-`, `_` or a dot
abbrev is_character : ℕ → Bool
is_character c = is_url_character c || (c == 46)

-- the text has only these characters
abbrev pub HasCharacters : List ℕ → Type 0
HasCharacters text = AllByRecursion (λ c. is_character c ≡ true) text

-- A base64url text followed by a text of these characters has only these characters.
url_then : (text rest : List ℕ) → IsUrlText text → HasCharacters rest → HasCharacters (text ++ rest)
url_then [] rest h later = later
url_then (c ∷ text) rest h later = (ap (λ b. b || (c == 46)) h.0, url_then text rest h.1 later)

-- Base64url texts with dots between them have only these characters.
pub joined_characters : (parts : List (List ℕ)) → AllByRecursion IsUrlText parts → HasCharacters (between_dots parts)
joined_characters [] h = tt
joined_characters (part ∷ []) h = subst HasCharacters (append-nil part) (url_then part [] h.0 tt)
joined_characters (part ∷ (next ∷ rest)) h = url_then part (46 ∷ between_dots (next ∷ rest)) h.0 (refl, joined_characters (next ∷ rest) h.1)

-- A character that is not one of these differs from each of them.
no_other : (k : ℕ) → is_character k ≡ false → (c : ℕ) → is_character c ≡ true → (c == k) ≡ false
no_other k isnt c h = by_test (c == k) refl
  where
    by_test : (b : Bool) → (c == k) ≡ b → b ≡ false
    by_test false e = refl
    by_test true e =
        let same : c ≡ k = eqb-true c k e in
        let bad : true ≡ false = sym h ∙ ap is_character same ∙ isnt in
        cc bad

-- None of these characters is white space.
no_space : (c : ℕ) → is_character c ≡ true → is_json_space c ≡ false
no_space c h = rw (no_other 32 refl c h, no_other 9 refl c h, no_other 10 refl c h, no_other 13 refl c h) refl

-- A text of these characters does not have JSON form.
pub no_json_form : (text : List ℕ) → HasCharacters text → is_json_form text ≡ false
unfolding is_json_form
no_json_form [] h = refl
no_json_form (c ∷ text) h = rw (no_space c h.0) (no_other 123 refl c h.0)

-- A text of these characters has no line feed.
no_line_feed : (text : List ℕ) → HasCharacters text → (i : ℕ) → (slice_index text i == 10) ≡ false
no_line_feed [] h zero = refl
no_line_feed [] h (suc i) = refl
no_line_feed (c ∷ text) h zero = no_other 10 refl c h.0
no_line_feed (c ∷ text) h (suc i) = no_line_feed text h.1 i

-- A text of these characters has no line end to remove.
pub no_line_end : (text : List ℕ) → HasCharacters text → without_line_end text ≡ text
unfolding without_line_end
no_line_end text h = rw (no_line_feed text h (length text - 1)) refl
