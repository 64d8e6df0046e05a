-- A key that is made has no float, if its template has none.
use Rattle.std.proofs.Common.{◌≡◌, ℕ, List, [], ◌∷◌, Bool, true, false, if◌then◌else◌, Option, Some, None, is_some, codes, Less, Equal, Greater, Ordering, nat_cmp, Ok, refl, ap}
use Rattle.std.specs.Cmp.Lexicographic.{slice_cmp}
use Rattle.std.specs.Option.{ok_or}
use Rattle.std.specs.Ordering.{match_ordering}
use Rattle.serde_json.specs.Data.{Data, string, array, Members, no_members, member}
use Rattle.serde_json.specs.Find.{get_member, as_object}
use Rattle.serde_json.specs.Written.{has_float, items_have_float, members_have_float}
use Rattle.octets.specs.declared.refusal.Refusal.TheVariants.{Key}
use Rattle.keys.proofs.Floats.{no_float_put_in, no_float_members_of}
use Rattle.keys.specs.declared.algorithm.NamedAlg.{NamedAlg}
use Rattle.keys.specs.Generating.{without, string_items, key_ops_of, with_operations, completed}
use Rattle.std.proofs.lemmas.Bool.{or_from, or_parts}

without_by : (o : Ordering) (l : List ℕ) (e : Data) (ms less : Members) → has_float e ≡ false → members_have_float ms ≡ false → members_have_float less ≡ false
    → members_have_float (match_ordering o (member l e less) ms (member l e less)) ≡ false
without_by Less l e ms less i j m = or_from _ _ i m
without_by Equal l e ms less i j m = j
without_by Greater l e ms less i j m = or_from _ _ i m

no_float-without : (k : List ℕ) (ms : Members) → members_have_float ms ≡ false → members_have_float (without k ms) ≡ false
no_float-without k no_members i = refl
no_float-without k (member l e ms) i =
    let parts = or_parts (has_float e) (members_have_float ms) i in
    without_by (slice_cmp nat_cmp k l) l e ms (without k ms) parts.0 parts.1 (no_float-without k ms parts.1)

no_float-strings : (texts : List (List ℕ)) → items_have_float (string_items texts) ≡ false
no_float-strings [] = refl
no_float-strings (text ∷ texts) = no_float-strings texts

chosen : (p q : Bool) (x y : Members) → members_have_float x ≡ false → members_have_float y ≡ false
    → members_have_float (if p then x else (if q then x else y)) ≡ false
chosen true q x y h k = h
chosen false true x y h k = h
chosen false false x y h k = k

no_float-with_operations : (alg : Option NamedAlg) (ms : Members) → members_have_float ms ≡ false → members_have_float (with_operations alg ms) ≡ false
no_float-with_operations None ms h = h
no_float-with_operations (Some alg) ms h =
    chosen (is_some (get_member (codes "key_ops") ms)) (is_some (get_member (codes "use") ms)) ms _ h
    (no_float_put_in (codes "key_ops") (array (string_items (key_ops_of alg))) ms (no_float-strings (key_ops_of alg)) h)

pub no_float-completed : (alg : Option NamedAlg) (ms : Members) → members_have_float ms ≡ false → members_have_float (completed alg ms) ≡ false
no_float-completed alg ms h =
    let left = without (codes "bytes") ms in
    no_float_put_in (codes "kty") (string (codes "oct")) (with_operations alg left) refl
    (no_float-with_operations alg left (no_float-without (codes "bytes") ms h))

found_of : (found : Option Members) (ms : Members) → ok_or found Key ≡ Ok ms → found ≡ Some ms
found_of None ms is = cc is
found_of (Some all) ms is = let same : all ≡ ms = cc is in ap Some same

pub no_float-members : (d : Data) (ms : Members) → ok_or (as_object d) Key ≡ Ok ms → has_float d ≡ false → members_have_float ms ≡ false
no_float-members d ms is h = no_float_members_of d ms (found_of (as_object d) ms is) h
