-- Members that are inserted one after another are in the order of their names.
use Rattle.std.proofs.Common.{◌≡◌, ℕ, List, [], ◌∷◌, Bool, true, false, ◌&&◌, cond, Option, Some, None, Ordering, Less, Equal, Greater, nat_cmp, refl, sym, ap, ◌∙◌}
use Rattle.std.proofs.lemmas.Bool.{and_parts}
use Rattle.std.specs.Cmp.Lexicographic.{slice_cmp}
use Rattle.serde_json.specs.Data.{Data, Members, member, put}
use Rattle.objects.specs.Values.{Entries, member_if_there, present}
use Rattle.objects.proofs.Members.{put_if_there, put_all}

abbrev is_less : Ordering → Bool
is_less Less = true
is_less Equal = false
is_less Greater = false

abbrev is_greater : Ordering → Bool
is_greater Less = false
is_greater Equal = false
is_greater Greater = true

less : (o : Ordering) → is_less o ≡ true → o ≡ Less
less Less h = refl
less Equal h = cc h
less Greater h = cc h

greater : (o : Ordering) → is_greater o ≡ true → o ≡ Greater
greater Less h = cc h
greater Equal h = cc h
greater Greater h = refl

-- the name comes before all of these
abbrev is_first : List ℕ → Entries → Bool
is_first name [] = true
is_first name (e ∷ rest) = is_less (slice_cmp nat_cmp name e.0) && is_first name rest

-- the name comes before all entries from some place on, and after those before this place
abbrev has_place : List ℕ → Entries → Bool
has_place name [] = true
has_place name (e ∷ rest) = cond (is_first name (e ∷ rest)) true (is_greater (slice_cmp nat_cmp name e.0) && has_place name rest)

-- the entry is inserted at this place
abbrev placed : List ℕ → Option Data → Entries → Entries
placed name o [] = (name, o) ∷ []
placed name o (e ∷ rest) = cond (is_first name (e ∷ rest)) ((name, o) ∷ e ∷ rest) (e ∷ placed name o rest)

-- A member is inserted before an entry with a later name.
put_before : (name other : List ℕ) (d : Data) (o : Option Data) (ms : Members) → is_less (slice_cmp nat_cmp name other) ≡ true
    → put name d ms ≡ member name d ms
    → put name d (member_if_there other o ms) ≡ member name d (member_if_there other o ms)
put_before name other d None ms is later = later
put_before name other d (Some e) ms is later = rw (less (slice_cmp nat_cmp name other) is) refl

put_first : (name : List ℕ) (d : Data) (es : Entries) → is_first name es ≡ true → put name d (present es) ≡ member name d (present es)
put_first name d [] h = refl
put_first name d (e ∷ rest) h =
    let parts = and_parts (is_less (slice_cmp nat_cmp name e.0)) (is_first name rest) h in
    put_before name e.0 d e.1 (present rest) parts.0 (put_first name d rest parts.1)

-- A member is inserted after an entry with an earlier name.
put_behind : (name other : List ℕ) (d : Data) (o : Option Data) (ms more : Members) → is_greater (slice_cmp nat_cmp name other) ≡ true → put name d ms ≡ more
    → put name d (member_if_there other o ms) ≡ member_if_there other o more
put_behind name other d None ms more is later = later
put_behind name other d (Some e) ms more is later = rw (greater (slice_cmp nat_cmp name other) is) (ap (member other e) later)

put_by : (b : Bool) (name : List ℕ) (d : Data) (e : List ℕ × Option Data) (rest : Entries) → is_first name (e ∷ rest) ≡ b
    → cond b true (is_greater (slice_cmp nat_cmp name e.0) && has_place name rest) ≡ true
    → (has_place name rest ≡ true → put name d (present rest) ≡ present (placed name (Some d) rest))
    → put name d (present (e ∷ rest)) ≡ present (cond b ((name, Some d) ∷ e ∷ rest) (e ∷ placed name (Some d) rest))
put_by true name d e rest first h later = put_first name d (e ∷ rest) first
put_by false name d e rest first h later =
    let parts = and_parts (is_greater (slice_cmp nat_cmp name e.0)) (has_place name rest) h in
    put_behind name e.0 d e.1 (present rest) (present (placed name (Some d) rest)) parts.0 (later parts.1)

put_placed : (name : List ℕ) (d : Data) (es : Entries) → has_place name es ≡ true → put name d (present es) ≡ present (placed name (Some d) es)
put_placed name d [] h = refl
put_placed name d (e ∷ rest) h = put_by (is_first name (e ∷ rest)) name d e rest refl h (put_placed name d rest)

-- An absent entry changes nothing.
absent_by : (b : Bool) (name : List ℕ) (e : List ℕ × Option Data) (rest : Entries) → present (placed name None rest) ≡ present rest
    → present (cond b ((name, None) ∷ e ∷ rest) (e ∷ placed name None rest)) ≡ present (e ∷ rest)
absent_by true name e rest later = refl
absent_by false name e rest later = ap (member_if_there e.0 e.1) later

absent_placed : (name : List ℕ) (es : Entries) → present (placed name None es) ≡ present es
absent_placed name [] = refl
absent_placed name (e ∷ rest) = absent_by (is_first name (e ∷ rest)) name e rest (absent_placed name rest)

-- all entries in order
abbrev pub sorted : Entries → Entries
sorted [] = []
sorted (e ∷ rest) = placed e.0 e.1 (sorted rest)

abbrev pub have_places : Entries → Bool
have_places [] = true
have_places (e ∷ rest) = has_place e.0 (sorted rest) && have_places rest

entry_placed : (name : List ℕ) (o : Option Data) (es : Entries) → has_place name es ≡ true → put_if_there name o (present es) ≡ present (placed name o es)
entry_placed name None es is = sym (absent_placed name es)
entry_placed name (Some d) es is = put_placed name d es is

pub put_sorted : (es : Entries) → have_places es ≡ true → put_all es ≡ present (sorted es)
put_sorted [] h = refl
put_sorted (e ∷ rest) h =
    let parts = and_parts (has_place e.0 (sorted rest)) (have_places rest) h in
    ap (put_if_there e.0 e.1) (put_sorted rest parts.1) ∙ entry_placed e.0 e.1 (sorted rest) parts.0
