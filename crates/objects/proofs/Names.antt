-- The members of several parts, by name.
use Rattle.std.proofs.Common.{◌≡◌, ℕ, List, Bool, true, false, not, Option, Some, None, option_map, is_some, Ordering, Less, Equal, Greater, nat_cmp, is_eq, true≢false, refl, sym, ap, ◌∙◌}
use Rattle.std.proofs.lemmas.Map.Text.{is_eq-slice_cmp}
use Rattle.std.proofs.lemmas.Slice.Eq.{bytes_eq-Decides}
use Rattle.std.specs.Cmp.Lexicographic.{slice_cmp}
use Rattle.std.specs.Option.{option_or}
use Rattle.std.specs.Ordering.{match_ordering}
use Rattle.std.specs.Prelude.{◌||◌}
use Rattle.serde_json.specs.Data.{Data, Members, no_members, member, put}
use Rattle.serde_json.specs.Find.{get_member}
use Rattle.serde_json.proofs.Views.{get_member-put, get_member-put_other}
use Rattle.objects.specs.Headers.{overlap, union, are_disjoint, all_members, HasAllMembers}
use Rattle.std.proofs.lemmas.Bool.{or_parts}

-- ---- equal and different names

one_name : (k l : List ℕ) → slice_cmp nat_cmp k l ≡ Equal → k ≡ l
one_name k l is = (bytes_eq-Decides k l).0 (sym (is_eq-slice_cmp k l) ∙ ap is_eq is)

two_names : (o : Ordering) (k l : List ℕ) → slice_cmp nat_cmp k l ≡ o → is_eq o ≡ false → k ≡ l → ⊥
two_names o k l is other same = true≢false (sym ((bytes_eq-Decides k l).1 same) ∙ sym (is_eq-slice_cmp k l) ∙ ap is_eq is ∙ other)

-- ---- the member of a union

found_at : (o : Ordering) (k l : List ℕ) (d : Data) (rest all other : Members) → slice_cmp nat_cmp k l ≡ o
    → get_member k all ≡ option_or (get_member k rest) (get_member k other)
    → get_member k (put l d all) ≡ option_or (match_ordering o (get_member k rest) (Some d) (get_member k rest)) (get_member k other)
found_at Less k l d rest all other is later = get_member-put_other k l d all (two_names Less k l is refl) ∙ later
found_at Equal k l d rest all other is later = rw (one_name k l is) (get_member-put l d all)
found_at Greater k l d rest all other is later = get_member-put_other k l d all (two_names Greater k l is refl) ∙ later

-- The member of a union is that of the first part, or else that of the other.
pub get_member-union : (name : List ℕ) (part other : Members) → get_member name (union part other) ≡ option_or (get_member name part) (get_member name other)
get_member-union name no_members other = refl
get_member-union name (member l d rest) other = found_at (slice_cmp nat_cmp name l) name l d rest (union rest other) other refl
    (get_member-union name rest other)

pub get_member-all_members : (name : List ℕ) (protected unprotected per_recipient : Members)
    → get_member name (all_members protected unprotected per_recipient)
    ≡ option_or (get_member name protected) (option_or (get_member name unprotected) (get_member name per_recipient))
get_member-all_members name protected unprotected per_recipient =
    get_member-union name protected (union unprotected per_recipient)
    ∙ ap (option_or (get_member name protected)) (get_member-union name unprotected per_recipient)

-- The view of the first value that is there is the first of the views.
pub seen_first : {A : Type 0} (seen : A → Data) (first second third : Option A)
    → option_map seen (option_or (option_or first second) third)
    ≡ option_or (option_map seen first) (option_or (option_map seen second) (option_map seen third))
seen_first seen None None third = refl
seen_first seen None (Some x) third = refl
seen_first seen (Some x) second third = refl

-- ---- parts with no name in common

is_false : (b : Bool) → not b ≡ true → b ≡ false
is_false true h = cc h
is_false false h = refl

pub not_there : (o : Option Data) → is_some o ≡ false → o ≡ None
not_there None h = refl
not_there (Some d) h = cc h

absent_at : (o : Ordering) (name l : List ℕ) (d e : Data) (rest other : Members) → slice_cmp nat_cmp name l ≡ o
    → (is_some (get_member l other) || overlap rest other) ≡ false
    → (overlap rest other ≡ false → get_member name rest ≡ Some d → get_member name other ≡ None)
    → match_ordering o (get_member name rest) (Some e) (get_member name rest) ≡ Some d → get_member name other ≡ None
absent_at Less name l d e rest other is apart later here = later (or_parts _ _ apart).1 here
absent_at Equal name l d e rest other is apart later here = rw (one_name name l is) (not_there _ (or_parts _ _ apart).0)
absent_at Greater name l d e rest other is apart later here = later (or_parts _ _ apart).1 here

-- If two parts do not overlap, a name of one is not in the other.
absent_in_other : (name : List ℕ) (d : Data) (part other : Members) → overlap part other ≡ false → get_member name part ≡ Some d → get_member name other ≡ None
absent_in_other name d no_members other apart here = cc here
absent_in_other name d (member l e rest) other apart here =
    absent_at (slice_cmp nat_cmp name l) name l d e rest other refl apart (absent_in_other name d rest other) here

absent_by : (found : Option Data) (name : List ℕ) (d : Data) (part other : Members) → get_member name part ≡ found → overlap part other ≡ false
    → get_member name other ≡ Some d → get_member name part ≡ None
absent_by None name d part other is apart here = is
absent_by (Some e) name d part other is apart here = let absent = absent_in_other name e part other apart is in cc (absent, here)

absent_in_part : (name : List ℕ) (d : Data) (part other : Members) → overlap part other ≡ false → get_member name other ≡ Some d → get_member name part ≡ None
absent_in_part name d part other = absent_by (get_member name part) name d part other refl

pub has_all_members : (protected unprotected per_recipient : Members) → are_disjoint protected unprotected per_recipient ≡ true
    → HasAllMembers protected unprotected per_recipient
has_all_members protected unprotected per_recipient disjoint =
    let first = or_parts (overlap protected unprotected) _ (is_false _ disjoint) in
    let others = or_parts (overlap protected per_recipient) (overlap unprotected per_recipient) first.1 in
    record {
      of_protected = λ name d here. rw (get_member-all_members name protected unprotected per_recipient, here) refl;
      of_unprotected = λ name d here. rw (
        get_member-all_members name protected unprotected per_recipient,
        absent_in_part name d protected unprotected first.0 here,
        here,
      ) refl;
      of_per_recipient = λ name d here. rw (
        get_member-all_members name protected unprotected per_recipient,
        absent_in_part name d protected per_recipient others.0 here,
        absent_in_part name d unprotected per_recipient others.1 here,
        here,
      ) refl;
      no_others = λ name a b c. rw (get_member-all_members name protected unprotected per_recipient, a, b, c) refl;
    }

-- ---- two parts in either order

-- A name of the rest is a name of the whole.
named_by : (o : Ordering) (found : Option Data) (e d : Data) → found ≡ Some d → (x : Data) × (match_ordering o found (Some e) found ≡ Some x)
named_by Less found e d h = (d, h)
named_by Equal found e d h = (e, refl)
named_by Greater found e d h = (d, h)

first_named : (o : Ordering) (l : List ℕ) (e : Data) (rest : Members) → slice_cmp nat_cmp l l ≡ o
    → (x : Data) × (match_ordering o (get_member l rest) (Some e) (get_member l rest) ≡ Some x)
first_named Equal l e rest is = (e, refl)
first_named Less l e rest is = absurd (two_names Less l l is refl refl)
first_named Greater l e rest is = absurd (two_names Greater l l is refl refl)

-- If no name of a part is in another, they do not overlap.
no_overlap : (part other : Members) → ((name : List ℕ) (d : Data) → get_member name part ≡ Some d → get_member name other ≡ None) → overlap part other ≡ false
no_overlap no_members other apart = refl
no_overlap (member l e rest) other apart =
    let first = first_named (slice_cmp nat_cmp l l) l e rest refl in
    let later : (name : List ℕ) (d : Data) → get_member name rest ≡ Some d → get_member name other ≡ None =
    λ name d here. let named = named_by (slice_cmp nat_cmp name l) (get_member name rest) e d here in apart name named.0 named.1 in
    rw (apart l first.0 first.1) (no_overlap rest other later)

apart_swapped : (part other : Members) → overlap part other ≡ false → overlap other part ≡ false
apart_swapped part other apart = no_overlap other part (λ name d here. absent_in_part name d part other apart here)

-- It does not matter which part comes first.
pub overlap_swapped : (part other : Members) → overlap part other ≡ overlap other part
overlap_swapped part other = by_both (overlap part other) (overlap other part) refl refl
  where
    by_both : (a b : Bool) → overlap part other ≡ a → overlap other part ≡ b → a ≡ b
    by_both true true one two = refl
    by_both false false one two = refl
    by_both true false one two = sym one ∙ apart_swapped other part two
    by_both false true one two = sym (apart_swapped part other one) ∙ two
