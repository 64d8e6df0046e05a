-- The members of one element next to others, or those of several elements as a list of objects: reading them returns the elements, and they
-- are JSON.
use Rattle.std.proofs.Common.{◌≡◌, ◌≤◌, ℕ, suc, List, [], ◌∷◌, ◌++◌, length, map, true, false, nat_le, Option, Some, None, Result, Ok, Err, IsUtf8, if◌then◌else◌, refl, ap, ◌∙◌, subst, arith}
use Rattle.std.proofs.Math.Dec.{leb-suc-suc, leb-suc-zero}
use Rattle.std.specs.List.{AllByRecursion}
use Rattle.std.specs.Option.{option_or}
use Rattle.std.specs.Str.{bytes_eq}
use Rattle.serde_json.specs.Data.{Data, Items, no_items, item, array, object, items_depth}
use Rattle.serde_json.specs.Find.{get}
use Rattle.octets.specs.declared.refusal.Refusal.{Refusal}
use Rattle.octets.specs.declared.refusal.Refusal.TheVariants.{Form}
use Rattle.octets.specs.Outcomes.{◌>>=◌}
use Rattle.keys.specs.JsonTexts.{AreJsonItems}
use Rattle.keys.specs.KeySets.{are_objects}
use Rattle.objects.specs.Texts.{each_item, object_list, header_depth, listed_header_depth, depth_of_each}
use Rattle.objects.specs.Values.{Entries, present, objects}
use Rattle.objects.proofs.EachRead.{all_then}
use Rattle.objects.proofs.Members.{put_all, first_there, IsJsonIfThere, AreJsonEntries, all_json}

-- the members of each element as an object
abbrev pub listed : {T : Type 0} → (T → Entries) → List T → Items
listed entries [] = no_items
listed entries (t ∷ ts) = item (object (put_all (entries t))) (listed entries ts)

-- The list is the objects of these members, if each element has the same members.
pub listed_is : {X T : Type 0} (entries : T → Entries) (text : X → T) (members : X → Entries)
    → ((x : X) → put_all (entries (text x)) ≡ present (members x)) → (xs : List X)
    → listed entries (map text xs) ≡ objects members xs
listed_is entries text members same [] = refl
listed_is entries text members same (x ∷ xs) = rw (same x, listed_is entries text members same xs) refl

-- the members of one element, or a member with the list of several or none
abbrev pub each_entries : {T : Type 0} → List ℕ → (T → Entries) → List T → Entries
each_entries name entries [] = (name, Some (array no_items)) ∷ []
each_entries name entries (t ∷ []) = entries t
each_entries name entries (t ∷ (other ∷ rest)) = (name, Some (array (listed entries (t ∷ (other ∷ rest))))) ∷ []

-- ---- reading

-- A name that is neither that of the list nor that of a member of an element is found only among the members before them.
pub in_front : {T : Type 0} (name : List ℕ) (entries : T → Entries) (ts : List T) (other : List ℕ) (d : Option Data) → bytes_eq other name ≡ false
    → ((t : T) → first_there other (entries t) ≡ None) → option_or d (first_there other (each_entries name entries ts)) ≡ option_or d None
in_front name entries [] other d differs none = rw differs refl
in_front name entries (t ∷ []) other d differs none = ap (option_or d) (none t)
in_front name entries (t ∷ (second ∷ rest)) other d differs none = rw differs refl

-- If each element is read from its object, the list is read from its objects.
items_read : {T : Type 0} (read : Data → Result T Refusal) (entries : T → Entries) → ((t : T) → read (object (put_all (entries t))) ≡ Ok t)
    → (ts : List T) → each_item read (listed entries ts) ≡ Ok ts
items_read read entries reads [] = refl
items_read read entries reads (t ∷ ts) = rw (reads t, items_read read entries reads ts) refl

-- The list consists of objects.
objects_are_objects : {T : Type 0} (entries : T → Entries) (ts : List T) → are_objects (listed entries ts) ≡ true
objects_are_objects entries [] = refl
objects_are_objects entries (t ∷ ts) = objects_are_objects entries ts

list_read : {T : Type 0} (entries : T → Entries) (t : T) (ts : List T) → object_list (array (listed entries (t ∷ ts))) ≡ Ok (listed entries (t ∷ ts))
unfolding object_list
list_read entries t ts = rw (objects_are_objects entries ts) refl

-- the objects of a value: the value itself, or the items of its list if the value has no members of one element
abbrev pub objects_by : (Data → Result (Unit {0}) Refusal) → Data → Option Data → Result Items Refusal
objects_by nothing_at value None = Ok (item value no_items)
objects_by nothing_at value (Some list) = nothing_at value >>= λ alone. object_list list

-- One element and a list are read, with other members before them. One element is also read from its own object.
pub record ReadsEach {T : Type 0} (name : List ℕ) (entries : T → Entries) (read : Data → Result T Refusal) (nothing_at : Data → Result (Unit {0}) Refusal)
    (front : Entries) : Type 0 where
  pub has_no_list : (t : T) → get name (object (put_all (front ++ entries t))) ≡ None
  pub beside : (t : T) → read (object (put_all (front ++ entries t))) ≡ Ok t
  pub alone : (t : T) → read (object (put_all (entries t))) ≡ Ok t
  pub has_list : (list : Data) → get name (object (put_all (front ++ (name, Some list) ∷ []))) ≡ Some list
  pub nothing : (list : Data) → nothing_at (object (put_all (front ++ (name, Some list) ∷ []))) ≡ Ok tt

-- All elements are read.
pub each_read : {T : Type 0} (name : List ℕ) (entries : T → Entries) (read : Data → Result T Refusal)
    (nothing_at : Data → Result (Unit {0}) Refusal) (front : Entries)
    → ReadsEach name entries read nothing_at front → (ts : List T) → nat_le 1 (length ts) ≡ true
    → let value = object (put_all (front ++ each_entries name entries ts)) in
    (items : Items) × (objects_by nothing_at value (get name value) ≡ Ok items) × (each_item read items ≡ Ok ts)
each_read name entries read nothing_at front is [] some = cc some
each_read name entries read nothing_at front is (t ∷ []) some =
    let value = object (put_all (front ++ entries t)) in
    (item value no_items, ap (objects_by nothing_at value) (is.has_no_list t), rw (is.beside t) refl)
each_read name entries read nothing_at front is (t ∷ (other ∷ rest)) some =
    let items = listed entries (t ∷ (other ∷ rest)) in
    let value = object (put_all (front ++ (name, Some (array items)) ∷ [])) in (
      items,
      ap (objects_by nothing_at value) (is.has_list (array items)) ∙ rw (is.nothing (array items)) (list_read entries t (other ∷ rest)),
      items_read read entries is.alone (t ∷ (other ∷ rest)),
    )

-- An empty list is refused.
pub none_read : {T : Type 0} (name : List ℕ) (entries : T → Entries) (read : Data → Result T Refusal)
    (nothing_at : Data → Result (Unit {0}) Refusal) (front : Entries)
    → ReadsEach name entries read nothing_at front → (ts : List T) → ts ≡ []
    → let value = object (put_all (front ++ each_entries name entries ts)) in objects_by nothing_at value (get name value) ≡ Err Form
unfolding object_list
none_read name entries read nothing_at front is [] none =
    let value = object (put_all (front ++ (name, Some (array no_items)) ∷ [])) in
    ap (objects_by nothing_at value) (is.has_list (array no_items)) ∙ rw (is.nothing (array no_items)) refl
none_read name entries read nothing_at front is (t ∷ ts) none = cc none

-- ---- JSON

depth_of_several : (n : ℕ) → depth_of_each (suc (suc n)) ≡ listed_header_depth
depth_of_several n = ap (λ few. if few then header_depth else listed_header_depth) (leb-suc-suc (suc n) 0 ∙ leb-suc-zero n)

-- If the members of each element are JSON and at most n deep, the objects of the list are JSON and at most n + 1 deep.
items_json : {X T : Type 0} → (n : ℕ) (text : X → T) (entries : T → Entries) (xs : List X) → AllByRecursion (λ x. AreJsonEntries n (entries (text x))) xs
    → AreJsonItems (listed entries (map text xs)) × (items_depth (listed entries (map text xs)) ≤ suc n)
items_json n text entries [] all = (tt, omega arith)
items_json n text entries (x ∷ xs) all =
    let first = all_json n (entries (text x)) all.0 in
    let others = items_json n text entries xs all.1 in
    ((first.0, others.0), omega (arith, first.1, others.1))

-- If the members of each element are no deeper than its header may be, all members are no deeper than a header at the top may be.
pub each_json : {X T : Type 0} → (name : List ℕ) (text : X → T) (entries : T → Entries) (xs : List X) → IsUtf8 name
    → AllByRecursion (λ x. AreJsonEntries (depth_of_each (length xs)) (entries (text x))) xs
    → AreJsonEntries header_depth (each_entries name entries (map text xs))
each_json name text entries [] named all = ((named, (tt, omega arith)), tt)
each_json name text entries (x ∷ []) named all = all.0
each_json name text entries (x ∷ (other ∷ rest)) named all =
    let deep = λ (n : ℕ). AllByRecursion (λ x. AreJsonEntries n (entries (text x))) (x ∷ (other ∷ rest)) in
    let items = items_json listed_header_depth text entries (x ∷ (other ∷ rest)) (subst deep (depth_of_several (length rest)) all) in
    ((named, (items.0, omega (arith, items.1))), tt)

-- A value that is at most n deep is at most n + 2 deep.
deeper_if_there : (n : ℕ) (d : Option Data) → IsJsonIfThere n d → IsJsonIfThere (suc (suc n)) d
deeper_if_there n None h = tt
deeper_if_there n (Some d) h = (h.0, omega (arith, h.1))

-- If the members of each element are JSON and at most n deep, all members are at most n + 2 deep.
pub each_json_deeper : {X T : Type 0} → (n : ℕ) (name : List ℕ) (text : X → T) (entries : T → Entries) (xs : List X) → IsUtf8 name
    → AllByRecursion (λ x. AreJsonEntries n (entries (text x))) xs → AreJsonEntries (suc (suc n)) (each_entries name entries (map text xs))
each_json_deeper n name text entries [] named all = ((named, (tt, omega arith)), tt)
each_json_deeper n name text entries (x ∷ []) named all = all_then _ _ (λ e h. (h.0, deeper_if_there n e.1 h.1)) (entries (text x)) all.0
each_json_deeper n name text entries (x ∷ (other ∷ rest)) named all =
    let items = items_json n text entries (x ∷ (other ∷ rest)) all in
    ((named, (items.0, omega (arith, items.1))), tt)
