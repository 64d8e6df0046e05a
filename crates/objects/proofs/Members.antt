-- Members that are inserted one after another, if they are there: finding them, and that they are JSON.
use Rattle.std.proofs.Common.{◌≡◌, ◌≤◌, ℕ, List, [], ◌∷◌, Bool, true, false, cond, Option, Some, None, true≢false, refl, sym, ◌∙◌, arith}
use Rattle.std.proofs.lemmas.Slice.Eq.{bytes_eq-Decides}
use Rattle.std.specs.List.{AllByRecursion}
use Rattle.std.specs.Option.{option_or}
use Rattle.std.specs.Str.{bytes_eq, IsUtf8}
use Rattle.serde_json.specs.Data.{Data, Members, no_members, put, depth, members_depth}
use Rattle.serde_json.specs.Find.{get_member}
use Rattle.serde_json.proofs.Views.{get_member-put, get_member-put_other}
use Rattle.keys.specs.JsonTexts.{IsJson, AreJsonMembers}
use Rattle.keys.proofs.Lemmas.{keep_json}
use Rattle.objects.specs.Values.{Entries}

-- the members with one more, if it is there
abbrev pub put_if_there : List ℕ → Option Data → Members → Members
put_if_there name None members = members
put_if_there name (Some d) members = put name d members

-- the entries that are there, inserted from the last one to the first
abbrev pub put_all : Entries → Members
put_all [] = no_members
put_all (e ∷ rest) = put_if_there e.0 e.1 (put_all rest)

-- ---- finding a member

-- the first value that is there under the name
abbrev pub first_there : List ℕ → Entries → Option Data
first_there name [] = None
first_there name (e ∷ rest) = cond (bytes_eq name e.0) (option_or e.1 (first_there name rest)) (first_there name rest)

-- One more entry at the front is found if it has the name and is there.
found_by : (b : Bool) (name other : List ℕ) (d : Option Data) (members : Members) (later : Option Data) → bytes_eq name other ≡ b
    → get_member name members ≡ later
    → get_member name (put_if_there other d members) ≡ cond b (option_or d later) later
found_by true name other None ms later is there = there
found_by false name other None ms later is there = there
found_by true name other (Some d) ms later is there = rw ((bytes_eq-Decides name other).0 is) (get_member-put other d ms)
found_by false name other (Some d) ms later is there =
    get_member-put_other name other d ms (λ same. true≢false (sym ((bytes_eq-Decides name other).1 same) ∙ is)) ∙ there

-- The member that is found is the first entry that is there.
pub get_member-put_all : (name : List ℕ) (entries : Entries) → get_member name (put_all entries) ≡ first_there name entries
get_member-put_all name [] = refl
get_member-put_all name (e ∷ rest) = found_by (bytes_eq name e.0) name e.0 e.1 (put_all rest) (first_there name rest) refl (get_member-put_all name rest)

-- ---- JSON

-- if the value is there, it is JSON and at most n deep
abbrev pub IsJsonIfThere : ℕ → Option Data → Type 0
IsJsonIfThere n None = Unit {0}
IsJsonIfThere n (Some d) = IsJson d × (depth d ≤ n)

-- each value is JSON and at most n deep, and its name is UTF-8
abbrev pub AreJsonEntries : ℕ → Entries → Type 0
AreJsonEntries n entries = AllByRecursion (λ e. IsUtf8 e.0 × IsJsonIfThere n e.1) entries

-- With one more entry, members are still JSON and at most n deep.
one_more : (n : ℕ) (name : List ℕ) (d : Option Data) (members : Members) → IsUtf8 name → IsJsonIfThere n d
    → AreJsonMembers members × (members_depth members ≤ n)
    → AreJsonMembers (put_if_there name d members) × (members_depth (put_if_there name d members) ≤ n)
one_more n name None ms text is all = all
one_more n name (Some d) ms text is all =
    let more = keep_json.put_in name d ms text is.0 all.0 in
    (more.0, omega (arith, more.1, is.1, all.1))

-- If each entry is JSON and at most n deep, so are the members.
pub all_json : (n : ℕ) (entries : Entries) → AreJsonEntries n entries → AreJsonMembers (put_all entries) × (members_depth (put_all entries) ≤ n)
all_json n [] all = (tt, omega arith)
all_json n (e ∷ rest) all = one_more n e.0 e.1 (put_all rest) all.0.0 all.0.1 (all_json n rest all.1)
