-- The members of a value without floats have no float.
use Rattle.std.proofs.Common.{◌≡◌, ℕ, List, false, Option, Some, Less, Equal, Greater, Ordering, nat_cmp, refl}
use Rattle.std.specs.Cmp.Lexicographic.{slice_cmp}
use Rattle.std.specs.Ordering.{match_ordering}
use Rattle.serde_json.specs.Data.{Data, null, boolean, number, string, array, object, Members, no_members, member, put}
use Rattle.serde_json.specs.Find.{get, get_member, as_object}
use Rattle.serde_json.specs.Written.{has_float, members_have_float}
use Rattle.std.proofs.lemmas.Bool.{or_from, or_parts}

found_by : (o : Ordering) (d e : Data) (rest : Option Data) → has_float d ≡ false → (rest ≡ Some e → has_float e ≡ false)
    → match_ordering o rest (Some d) rest ≡ Some e → has_float e ≡ false
found_by Less d e rest h later is = later is
found_by Equal d e rest h later is = let same : d ≡ e = cc is in rw (← same) h
found_by Greater d e rest h later is = later is

in_members : (name : List ℕ) (ms : Members) (e : Data) → members_have_float ms ≡ false → get_member name ms ≡ Some e → has_float e ≡ false
in_members name no_members e h is = cc is
in_members name (member k d ms) e h is =
    let parts = or_parts (has_float d) (members_have_float ms) h in
    found_by (slice_cmp nat_cmp name k) d e (get_member name ms) parts.0 (in_members name ms e parts.1) is

pub no_float_in_member : (name : List ℕ) (d e : Data) → has_float d ≡ false → get name d ≡ Some e → has_float e ≡ false
no_float_in_member name null e h is = cc is
no_float_in_member name (boolean b) e h is = cc is
no_float_in_member name (number n) e h is = cc is
no_float_in_member name (string s) e h is = cc is
no_float_in_member name (array ds) e h is = cc is
no_float_in_member name (object ms) e h is = in_members name ms e h is

-- ---- a member that is inserted

put_by : (o : Ordering) (name other : List ℕ) (d e : Data) (rest more : Members) → has_float d ≡ false → has_float e ≡ false → members_have_float rest ≡ false
    → members_have_float more ≡ false → members_have_float (match_ordering o (member name d (member other e rest)) (member other d rest) (member other e more))
    ≡ false
put_by Less name other d e rest more h k r m = or_from (has_float d) _ h (or_from (has_float e) (members_have_float rest) k r)
put_by Equal name other d e rest more h k r m = or_from (has_float d) (members_have_float rest) h r
put_by Greater name other d e rest more h k r m = or_from (has_float e) (members_have_float more) k m

pub no_float_put_in : (name : List ℕ) (d : Data) (ms : Members) → has_float d ≡ false → members_have_float ms ≡ false
    → members_have_float (put name d ms) ≡ false
no_float_put_in name d no_members h k = or_from (has_float d) false h refl
no_float_put_in name d (member other e rest) h k =
    let parts = or_parts (has_float e) (members_have_float rest) k in
    put_by (slice_cmp nat_cmp name other) name other d e rest (put name d rest) h parts.0 parts.1 (no_float_put_in name d rest h parts.1)

-- ---- the members of an object

pub no_float_members_of : (d : Data) (ms : Members) → as_object d ≡ Some ms → has_float d ≡ false → members_have_float ms ≡ false
no_float_members_of null ms is h = cc is
no_float_members_of (boolean b) ms is h = cc is
no_float_members_of (number n) ms is h = cc is
no_float_members_of (string s) ms is h = cc is
no_float_members_of (array ds) ms is h = cc is
no_float_members_of (object all) ms is h = let same : all ≡ ms = cc is in rw (← same) h
