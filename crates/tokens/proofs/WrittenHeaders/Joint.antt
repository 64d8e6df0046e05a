-- Headers with entries inserted: the members of the joint header, and that its parts have no name in common.
use Rattle.std.proofs.Common.{◌≡◌, ℕ, ◌≤◌, lit≤, ◌||◌, Bool, true, false, cond, List, [], ◌∷◌, codes, Option, Some, None, is_some, is_none, IsUtf8, Ordering, Less, Equal, Greater, nat_cmp, is_eq, true≢false, refl, sym, ap, ◌∙◌, arith}
use Rattle.std.proofs.lemmas.Bool.{and_parts, or_from, or_parts, not-true}
use Rattle.std.proofs.lemmas.Cmp.{nat_list_cmp_total, tied_itself}
use Rattle.std.proofs.lemmas.Map.Text.{is_eq-slice_cmp}
use Rattle.std.proofs.lemmas.Slice.Eq.{bytes_eq-Decides}
use Rattle.std.specs.Cmp.Lexicographic.{slice_cmp}
use Rattle.std.specs.List.{AllByRecursion}
use Rattle.std.specs.Option.{option_or}
use Rattle.std.specs.Ordering.{match_ordering}
use Rattle.std.specs.Str.{bytes_eq}
use Rattle.serde_json.specs.Data.{Data, Members, no_members, member, object, depth, members_depth}
use Rattle.serde_json.specs.Find.{get_member}
use Rattle.serde_json.proofs.Views.{get_member-put, get_member-put_other}
use Rattle.keys.specs.JsonTexts.{AreJsonMembers}
use Rattle.keys.proofs.Lemmas.{keep_json}
use Rattle.objects.specs.Headers.{overlap, are_disjoint, all_members, has_no_crit}
use Rattle.objects.specs.Jwe.{has_no_crit_or_zip}
use Rattle.objects.specs.Texts.{listed_header_depth}
use Rattle.objects.proofs.Lemmas.{get_member-all_members, Entries, put_if_there, first_there, IsJsonIfThere, AreJsonEntries, not_there}

-- ---- entries that are inserted into a header

-- the header with entries, inserted from the last one to the first
abbrev pub put_onto : Members → Entries → Members
put_onto header [] = header
put_onto header (e ∷ rest) = put_if_there e.0 e.1 (put_onto header rest)

-- With one more entry, this entry is found if it has the name and is there.
found_by : (b : Bool) (name other : List ℕ) (d : Option Data) (members : Members) (first later : Option Data) → bytes_eq name other ≡ b
    → get_member name members ≡ option_or first later
    → get_member name (put_if_there other d members) ≡ option_or (cond b (option_or d first) first) later
found_by true name other None ms first later is there = there
found_by false name other None ms first later is there = there
found_by true name other (Some d) ms first later is there = rw ((bytes_eq-Decides name other).0 is) (get_member-put other d ms)
found_by false name other (Some d) ms first later is there =
    get_member-put_other name other d ms (λ same. true≢false (sym ((bytes_eq-Decides name other).1 same) ∙ is)) ∙ there

-- The first entry that is there is found, or else the member of the header.
pub get_member-put_onto : (name : List ℕ) (header : Members) (es : Entries)
    → get_member name (put_onto header es) ≡ option_or (first_there name es) (get_member name header)
get_member-put_onto name header [] = refl
get_member-put_onto name header (e ∷ rest) =
    found_by (bytes_eq name e.0) name e.0 e.1 (put_onto header rest) (first_there name rest) (get_member name header) refl
    (get_member-put_onto name header rest)

-- a header does not have the name of an entry, if the entry is there
abbrev pub IsFree : Members → List ℕ → Option Data → Type 0
IsFree header name None = Unit {0}
IsFree header name (Some d) = get_member name header ≡ None

-- a header does not have the name of any entry that is there
abbrev pub AreFree : Members → Entries → Type 0
AreFree header es = AllByRecursion (λ e. IsFree header e.0 e.1) es

-- With one more entry, the header still does not have the name of a value that is found among the entries.
free_by : (b : Bool) (header : Members) (name other : List ℕ) (d : Data) (o first : Option Data) → bytes_eq name other ≡ b → IsFree header other o
    → (first ≡ Some d → get_member name header ≡ None) → cond b (option_or o first) first ≡ Some d → get_member name header ≡ None
free_by false header name other d o first is free later here = later here
free_by true header name other d None first is free later here = later here
free_by true header name other d (Some e) first is free later here = rw ((bytes_eq-Decides name other).0 is) free

-- If an entry is found, the header does not have its name.
free_there : (header : Members) (name : List ℕ) (d : Data) (es : Entries) → AreFree header es → first_there name es ≡ Some d → get_member name header ≡ None
free_there header name d [] free here = cc here
free_there header name d (e ∷ rest) free here =
    free_by (bytes_eq name e.0) header name e.0 d e.1 (first_there name rest) refl free.0 (free_there header name d rest free.1) here

-- ---- headers with no name in common

-- no name of one header is in the other
abbrev Apart : Members → Members → Type 0
Apart part other = (name : List ℕ) (d : Data) → get_member name part ≡ Some d → get_member name other ≡ None

-- If the names of two headers are apart, they still are with one more member in one of them, wherever its name is in the order.
apart_at : (o : Ordering) (name l : List ℕ) (d e : Data) (rest other : Members) → slice_cmp nat_cmp name l ≡ o → is_some (get_member l other) ≡ false
    → (get_member name rest ≡ Some d → get_member name other ≡ None) → match_ordering o (get_member name rest) (Some e) (get_member name rest) ≡ Some d
    → get_member name other ≡ None
apart_at Less name l d e rest other is none later here = later here
apart_at Equal name l d e rest other is none later here =
    let same : name ≡ l = (bytes_eq-Decides name l).0 (sym (is_eq-slice_cmp name l) ∙ ap is_eq is) in
    rw same (not_there (get_member l other) none)
apart_at Greater name l d e rest other is none later here = later here

-- If two headers do not overlap, their names are apart.
apart : (part other : Members) → overlap part other ≡ false → Apart part other
apart no_members other h name d here = cc here
apart (member l e rest) other h name d here =
    let both = or_parts (is_some (get_member l other)) (overlap rest other) h in
    apart_at (slice_cmp nat_cmp name l) name l d e rest other refl both.0 (apart rest other both.1 name d) here

-- If the names of two headers are apart, they still are without the first member of one.
later_apart : (o : Ordering) (name l : List ℕ) (d e : Data) (rest other : Members) → slice_cmp nat_cmp name l ≡ o → Apart (member l e rest) other
    → get_member name rest ≡ Some d → get_member name other ≡ None
later_apart Less name l d e rest other is apart here = apart name d (rw is here)
later_apart Equal name l d e rest other is apart here = apart name e (rw is refl)
later_apart Greater name l d e rest other is apart here = apart name d (rw is here)

-- If the names of two headers are apart, they do not overlap.
no_overlap : (part other : Members) → Apart part other → overlap part other ≡ false
no_overlap no_members other apart = refl
no_overlap (member l e rest) other apart =
    let here : get_member l (member l e rest) ≡ Some e = rw (tied_itself nat_list_cmp_total l) refl in
    or_from (is_some (get_member l other)) (overlap rest other) (ap is_some (apart l e here))
    (no_overlap rest other (λ name d there. later_apart (slice_cmp nat_cmp name l) name l d e rest other refl apart there))

-- ---- the joint header

-- A name that is not in the joint header is in none of its two parts.
absent : (name : List ℕ) (p u : Members) → get_member name (all_members p u no_members) ≡ None → (get_member name p ≡ None) × (get_member name u ≡ None)
absent name p u h = neither (get_member name p) (get_member name u) (sym (get_member-all_members name p u no_members) ∙ h)
  where
    neither : (x y : Option Data) → option_or x (option_or y None) ≡ None → (x ≡ None) × (y ≡ None)
    neither None None h = (refl, refl)
    neither None (Some d) h = cc h
    neither (Some d) y h = cc h

-- If a joint header has no `crit` and no `zip`, neither have its parts.
pub plain_parts : (p u : Members) → has_no_crit_or_zip (all_members p u no_members) ≡ true → (has_no_crit_or_zip p ≡ true) × (has_no_crit_or_zip u ≡ true)
plain_parts p u h =
    let header = all_members p u no_members in
    let both = and_parts (has_no_crit header) (is_none (get_member (codes "zip") header)) h in
    let crit = absent (codes "crit") p u (not_there (get_member (codes "crit") header) (not-true _ both.0)) in
    let zip = absent (codes "zip") p u (not_there (get_member (codes "zip") header) (not-true _ both.1)) in
    (rw (crit.0, zip.0) refl, rw (crit.1, zip.1) refl)

-- The parts of a joint header have no name in common, and together they have the entries and the members of another header.
pub record IsJoint (p u own : Members) (es : Entries) (before : Members) : Type 0 where
  pub disjoint : are_disjoint p u own ≡ true
  pub members : (name : List ℕ) → get_member name (all_members p u own) ≡ option_or (first_there name es) (get_member name before)

-- Three parts are disjoint if no two of them overlap.
disjoint_parts : (p u own : Members) → overlap p u ≡ false → overlap p own ≡ false → overlap u own ≡ false → are_disjoint p u own ≡ true
disjoint_parts p u own a b c = rw (a, b, c) refl

-- A header does not overlap the empty header.
pub no_names : (part : Members) → overlap part no_members ≡ false
no_names part = no_overlap part no_members (λ name d here. refl)

-- Two parts that are disjoint do not overlap.
overlap_of : (p u : Members) → are_disjoint p u no_members ≡ true → overlap p u ≡ false
overlap_of p u h = (or_parts (overlap p u) (overlap p no_members || overlap u no_members) (not-true _ h)).0

-- Entries with unused names may be inserted into the protected header.
pub into_protected : (p u : Members) (es : Entries) → are_disjoint p u no_members ≡ true → AreFree (all_members p u no_members) es
    → IsJoint (put_onto p es) u no_members es (all_members p u no_members)
into_protected p u es h free = record {
  disjoint = disjoint_parts (put_onto p es) u no_members (no_overlap (put_onto p es) u all_apart) (no_names (put_onto p es)) (no_names u);
  members = λ name.
      get_member-all_members name (put_onto p es) u no_members ∙ ap (λ o. option_or o (option_or (get_member name u) None)) (get_member-put_onto name p es)
      ∙ regrouped (first_there name es) (get_member name p) (option_or (get_member name u) None)
      ∙ ap (option_or (first_there name es)) (sym (get_member-all_members name p u no_members));
}
  where
    regrouped : (x y z : Option Data) → option_or (option_or x y) z ≡ option_or x (option_or y z)
    regrouped None y z = refl
    regrouped (Some d) y z = refl

    apart_by : (first : Option Data) (name : List ℕ) (d : Data) → first_there name es ≡ first → option_or first (get_member name p) ≡ Some d
        → get_member name u ≡ None
    apart_by None name d is here = apart p u (overlap_of p u h) name d here
    apart_by (Some x) name d is here = (absent name p u (free_there (all_members p u no_members) name x es free is)).1

    all_apart : Apart (put_onto p es) u
    all_apart name d here = apart_by (first_there name es) name d refl (sym (get_member-put_onto name p es) ∙ here)

-- Entries with unused names may be inserted into the header of a recipient.
pub into_own : (p u : Members) (es : Entries) → are_disjoint p u no_members ≡ true → AreFree (all_members p u no_members) es
    → IsJoint p u (put_onto no_members es) es (all_members p u no_members)
into_own p u es h free = record {
  disjoint = disjoint_parts p u (put_onto no_members es) (overlap_of p u h)
      (no_overlap p (put_onto no_members es) (λ name. own_apart name (get_member name p) (λ none. (absent name p u none).0)))
      (no_overlap u (put_onto no_members es) (λ name. own_apart name (get_member name u) (λ none. (absent name p u none).1)));
  members = λ name.
      get_member-all_members name p u (put_onto no_members es)
      ∙ ap (λ o. option_or (get_member name p) (option_or (get_member name u) o)) (get_member-put_onto name no_members es)
      ∙ first_by (first_there name es) name refl ∙ ap (option_or (first_there name es)) (sym (get_member-all_members name p u no_members));
}
  where
    apart_by : (first : Option Data) (name : List ℕ) (part : Option Data) (d : Data) → first_there name es ≡ first
        → (get_member name (all_members p u no_members) ≡ None → part ≡ None) → part ≡ Some d
        → option_or first None ≡ None
    apart_by None name part d is none here = refl
    apart_by (Some x) name part d is none here = let gone = none (free_there (all_members p u no_members) name x es free is) in cc (gone, here)

    own_apart : (name : List ℕ) (part : Option Data) → (get_member name (all_members p u no_members) ≡ None → part ≡ None) → (d : Data) → part ≡ Some d
        → get_member name (put_onto no_members es) ≡ None
    own_apart name part none d here = get_member-put_onto name no_members es ∙ apart_by (first_there name es) name part d refl none here

    first_by : (first : Option Data) (name : List ℕ) → first_there name es ≡ first
        → option_or (get_member name p) (option_or (get_member name u) (option_or first None))
        ≡ option_or first (option_or (get_member name p) (option_or (get_member name u) None))
    first_by None name is = refl
    first_by (Some x) name is = let none = absent name p u (free_there (all_members p u no_members) name x es free is) in rw (none.0, none.1) refl

-- ---- headers that may be written

-- The header is JSON, is not nested too deeply for a text, and has no `crit` and no `zip`.
pub record IsHeader (header : Members) : Type 0 where
  pub json : AreJsonMembers header
  pub shallow : depth (object header) ≤ listed_header_depth
  pub plain : has_no_crit_or_zip header ≡ true

-- With one more entry, members are still JSON and nested no deeper.
one_more : (name : List ℕ) (o : Option Data) (ms : Members) (n : ℕ) → IsUtf8 name → IsJsonIfThere 0 o → AreJsonMembers ms × (members_depth ms ≤ n)
    → AreJsonMembers (put_if_there name o ms) × (members_depth (put_if_there name o ms) ≤ n)
one_more name None ms n text is all = all
one_more name (Some d) ms n text is all = let more = keep_json.put_in name d ms text is.0 all.0 in (more.0, omega (arith, more.1, is.1, all.1))

-- With all entries, members are still JSON and nested no deeper.
json_onto : (header : Members) (es : Entries) → AreJsonEntries 0 es → AreJsonMembers header
    → AreJsonMembers (put_onto header es) × (members_depth (put_onto header es) ≤ members_depth header)
json_onto header [] all json = (json, omega arith)
json_onto header (e ∷ rest) all json = one_more e.0 e.1 (put_onto header rest) (members_depth header) all.0.0 all.0.1 (json_onto header rest all.1 json)

-- A header may still be written with entries that do not nest and are neither `crit` nor `zip`.
pub header_onto : (header : Members) (es : Entries) → IsHeader header → AreJsonEntries 0 es → first_there (codes "crit") es ≡ None
    → first_there (codes "zip") es ≡ None → IsHeader (put_onto header es)
header_onto header es is all crit zip =
    let json = json_onto header es all is.json in
    record {
      json = json.0;
      shallow = omega (arith, json.1, is.shallow);
      plain = rw (get_member-put_onto (codes "crit") header es, get_member-put_onto (codes "zip") header es, crit, zip) is.plain;
    }

-- The empty header may be written.
pub empty_header : IsHeader no_members
empty_header = record { json = tt; shallow = lit≤ tt; plain = refl }
