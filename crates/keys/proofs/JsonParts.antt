-- The parts of a JSON value: members that are found, inserted or removed.
use Rattle.std.proofs.Common.{◌≡◌, ◌≤◌, ◌<◌, ℕ, List, max, Option, Some, refl, ap, ◌∙◌, arith, Ordering, Less, Equal, Greater, nat_cmp, IsUtf8}
use Rattle.std.proofs.lemmas.Cmp.{nat_list_cmp_total}
use Rattle.std.specs.Cmp.Lexicographic.{slice_cmp}
use Rattle.std.specs.Ordering.{match_ordering, ordering_reverse}
use Rattle.serde_json.specs.Data.{Data, null, boolean, number, string, array, object, Items, Members, no_members, member, put, depth, items_depth, members_depth}
use Rattle.serde_json.specs.Find.{get, get_member, as_array, as_object}
use Rattle.keys.specs.Generating.{without}
use Rattle.keys.proofs.ReadingBack.{numbers_whole}
use Rattle.keys.proofs.WholeNumbers.{no_float}
use Rattle.keys.specs.JsonTexts.{IsBefore, IsJson, AreJsonItems, AreJsonMembers, KeepJson}

-- ---- members that are found

found_by : (o : Ordering) (n : ℕ) (d e : Data) (rest : Option Data) → IsJson d → depth d ≤ n → (rest ≡ Some e → IsJson e × (depth e ≤ n))
    → match_ordering o rest (Some d) rest ≡ Some e → IsJson e × (depth e ≤ n)
found_by Less n d e rest is shallow later here = later here
found_by Equal n d e rest is shallow later here = let same : d ≡ e = cc in rw (← same) (is, shallow)
found_by Greater n d e rest is shallow later here = later here

in_members : (name : List ℕ) (ms : Members) (n : ℕ) (e : Data) → AreJsonMembers ms → members_depth ms ≤ n → get_member name ms ≡ Some e
    → IsJson e × (depth e ≤ n)
in_members name no_members n e is shallow here = cc here
in_members name (member other d ms) n e is shallow here =
    found_by (slice_cmp nat_cmp name other) n d e (get_member name ms) is.2 (omega (arith, shallow)) (in_members name ms n e is.3 (omega (arith, shallow))) here

found : (name : List ℕ) (d e : Data) → IsJson d → get name d ≡ Some e → IsJson e × (depth e < depth d)
found name null e is here = cc here
found name (boolean b) e is here = cc here
found name (number n) e is here = cc here
found name (string s) e is here = cc here
found name (array ds) e is here = cc here
found name (object ms) e is here = let inner = in_members name ms (members_depth ms) e is (omega arith) here in (inner.0, omega (arith, inner.1))

members_of : (d : Data) (ms : Members) → IsJson d → as_object d ≡ Some ms → AreJsonMembers ms × (members_depth ms < depth d)
members_of null ms is here = cc here
members_of (boolean b) ms is here = cc here
members_of (number n) ms is here = cc here
members_of (string s) ms is here = cc here
members_of (array ds) ms is here = cc here
members_of (object all) ms is here = let same : all ≡ ms = cc in rw (← same) (is, omega arith)

items_of : (d : Data) (ds : Items) → IsJson d → as_array d ≡ Some ds → AreJsonItems ds × (items_depth ds < depth d)
items_of null ds is here = cc here
items_of (boolean b) ds is here = cc here
items_of (number n) ds is here = cc here
items_of (string s) ds is here = cc here
items_of (array all) ds is here = let same : all ≡ ds = cc in rw (← same) (is, omega arith)
items_of (object ms) ds is here = cc here

-- ---- the order of names

pub before_later : (k l : List ℕ) (ms : Members) → slice_cmp nat_cmp k l ≡ Less → IsBefore l ms → IsBefore k ms
before_later k l no_members h p = tt
before_later k l (member m d ms) h p = (nat_list_cmp_total.trans k l m h p.0, before_later k l ms h p.1)

pub before_put : (l k : List ℕ) (d : Data) (ms : Members) → slice_cmp nat_cmp l k ≡ Less → IsBefore l ms → IsBefore l (put k d ms)
before_put l k d no_members h p = (h, tt)
before_put l k d (member m e ms) h p =
    let put_at : (o : Ordering) → IsBefore l (match_ordering o (member k d (member m e ms)) (member m d ms) (member m e (put k d ms))) =
    λ o. elim o as (λ o. IsBefore l (match_ordering o (member k d (member m e ms)) (member m d ms) (member m e (put k d ms)))) [
      | Less ↦ (h, p)
      | Equal ↦ p
      | Greater ↦ (p.0, before_put l k d ms h p.1)
    ] in
    put_at (slice_cmp nat_cmp k m)

before_without : (l k : List ℕ) (ms : Members) → IsBefore l ms → IsBefore l (without k ms)
before_without l k no_members p = tt
before_without l k (member m e ms) p =
    let at : (o : Ordering) → IsBefore l (match_ordering o (member m e (without k ms)) ms (member m e (without k ms))) =
    λ o. elim o as (λ o. IsBefore l (match_ordering o (member m e (without k ms)) ms (member m e (without k ms)))) [
      | Less ↦ (p.0, before_without l k ms p.1)
      | Equal ↦ p.1
      | Greater ↦ (p.0, before_without l k ms p.1)
    ] in
    at (slice_cmp nat_cmp k m)

pub greater : (k l : List ℕ) → slice_cmp nat_cmp k l ≡ Greater → slice_cmp nat_cmp l k ≡ Less
greater k l is = nat_list_cmp_total.antisymm l k ∙ ap ordering_reverse is

-- ---- a member that is inserted

put_by : (o : Ordering) (k l : List ℕ) (d e : Data) (ms : Members) → slice_cmp nat_cmp k l ≡ o → IsUtf8 k → IsJson d → AreJsonMembers (member l e ms)
    → AreJsonMembers (put k d ms)
    → AreJsonMembers (match_ordering o (member k d (member l e ms)) (member l d ms) (member l e (put k d ms)))
put_by Less k l d e ms is u t h more = (u, (is, before_later k l ms is h.1), t, h)
put_by Equal k l d e ms is u t h more = (h.0, h.1, t, h.3)
put_by Greater k l d e ms is u t h more = (h.0, before_put l k d ms (greater k l is) h.1, h.2, more)

put_in : (k : List ℕ) (d : Data) (ms : Members) → IsUtf8 k → IsJson d → AreJsonMembers ms → AreJsonMembers (put k d ms)
put_in k d no_members u t h = (u, tt, t, tt)
put_in k d (member l e ms) u t h = put_by _ k l d e ms refl u t h (put_in k d ms u t h.3)

depth_put_by : (o : Ordering) (k l : List ℕ) (d e : Data) (ms more : Members) → members_depth more ≤ max (depth d) (members_depth ms)
    → members_depth (match_ordering o (member k d (member l e ms)) (member l d ms) (member l e more)) ≤ max (depth d) (members_depth (member l e ms))
depth_put_by Less k l d e ms more h = omega (arith, h)
depth_put_by Equal k l d e ms more h = omega (arith, h)
depth_put_by Greater k l d e ms more h = omega (arith, h)

depth_put : (k : List ℕ) (d : Data) (ms : Members) → members_depth (put k d ms) ≤ max (depth d) (members_depth ms)
depth_put k d no_members = omega arith
depth_put k d (member l e ms) = depth_put_by (slice_cmp nat_cmp k l) k l d e ms (put k d ms) (depth_put k d ms)

-- ---- a member that is removed

without_by : (o : Ordering) (l : List ℕ) (e : Data) (ms less : Members) → IsBefore l less → AreJsonMembers (member l e ms) → AreJsonMembers less
    → AreJsonMembers (match_ordering o (member l e less) ms (member l e less))
without_by Less l e ms less p h more = (h.0, p, h.2, more)
without_by Equal l e ms less p h more = h.3
without_by Greater l e ms less p h more = (h.0, p, h.2, more)

left : (k : List ℕ) (ms : Members) → AreJsonMembers ms → AreJsonMembers (without k ms)
left k no_members h = tt
left k (member l e ms) h = without_by (slice_cmp nat_cmp k l) l e ms (without k ms) (before_without l k ms h.1) h (left k ms h.3)

depth_left_by : (o : Ordering) (l : List ℕ) (e : Data) (ms less : Members) → members_depth less ≤ members_depth ms
    → members_depth (match_ordering o (member l e less) ms (member l e less)) ≤ members_depth (member l e ms)
depth_left_by Less l e ms less h = omega (arith, h)
depth_left_by Equal l e ms less h = omega (arith, h)
depth_left_by Greater l e ms less h = omega (arith, h)

depth_left : (k : List ℕ) (ms : Members) → members_depth (without k ms) ≤ members_depth ms
depth_left k no_members = omega arith
depth_left k (member l e ms) = depth_left_by (slice_cmp nat_cmp k l) l e ms (without k ms) (depth_left k ms)

pub keep_json : KeepJson
keep_json = record {
  no_float = λ d is. no_float d (numbers_whole d is);
  found = found;
  members_of = members_of;
  items_of = items_of;
  put_in = λ k d ms u t h. (put_in k d ms u t h, depth_put k d ms);
  left = λ k ms h. (left k ms h, depth_left k ms);
}
