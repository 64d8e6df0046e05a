-- What the sets that are made read as.
use Rattle.std.proofs.Common.{◌≡◌, ◌∙◌, ◌≤◌, ◌+◌, ◌==◌, ◌||◌, not, nat_le, ℕ, suc, Bool, true, false, if◌then◌else◌, List, [], ◌∷◌, ◌++◌, length, codes, Option, Some, None, Result, Ok, Err, refl, sym, ap, subst, append_assoc, arith}
use Rattle.std.proofs.lemmas.Bool.{and_parts, and_from, leb-true}
use Rattle.std.proofs.lemmas.List.{append-nil}
use Rattle.serde_json.specs.Data.{Items, no_items, item, depth, items_depth}
use Rattle.octets.specs.declared.refusal.Refusal.{Refusal}
use Rattle.octets.specs.declared.refusal.Refusal.TheVariants.{Limit}
use Rattle.keys.specs.Json.{has_only, is_object, json_value}
use Rattle.keys.specs.JsonTexts.{AreJsonItems, CompactTextReadsBack, KeepJson, ReadsJson, UrlTextsAreJson}
use Rattle.keys.specs.Keys.{OctetKey, octet_key}
use Rattle.keys.specs.KeySets.{are_objects, items_count, key_objects, key_set, octet_keys, unless_bad, value_keys}
use Rattle.keys.specs.Limits.{limits}
use Rattle.tools.specs.declared.tool_cause.Place.{Place}
use Rattle.tools.specs.declared.tool_cause.Place.TheVariants.{File, Target}
use Rattle.tools.specs.declared.tool_cause.Why.TheVariants.{NoSet, NoneStays, OtherMember, Refused}
use Rattle.tools.specs.declared.tool_cause.ToolCause.TheVariants.{At}
use Rattle.tools.specs.declared.tool_cause.ToolCause.{ToolCause}
use Rattle.tools.specs.Sets.{HeldKeys, JoinedKeys, are_shallow, first_twice, has_octets, all_there, first_unknown, held_keys, is_set, joined_items, left, text_without, thumbprints, judged, most_depth, no_keys, none_twice, set_keys, set_text, set_value, with_keys, with_text}
use Rattle.tools.specs.SetHeadline.{AddedKeysReadBack, AreKeysOf, JoinedAloneIsTheSame, JoinedKeysReadBack, LeftKeysReadBack, ReadsAs, joined_from, joined_text, unnamed}
use Rattle.keys.specs.Texts.{is_among}
use Rattle.keys.specs.Thumbprints.{thumbprint_of}
use Rattle.prf.specs.declared.digests.HashAlg.TheVariants.{S256}
use Rattle.tools.specs.Steps.{◌>>=◌, needs}
use Rattle.tools.proofs.KeyObjects.{keys_of, objects_of, some_keys, value_of}

-- ---- steps

step : {A B : Type 0} (r : Result A ToolCause) (f : A → Result B ToolCause) (y : B) → (r >>= f) ≡ Ok y → (x : A) × (r ≡ Ok x) × (f x ≡ Ok y)
step (Ok x) f y h = (x, refl, h)
step (Err cause) f y h = cc h

test_passed : (test : Bool) (cause : ToolCause) (done : Unit {0}) → needs test cause ≡ Ok done → test ≡ true
test_passed true cause done h = refl
test_passed false cause done h = cc h

was_judged : {A : Type 0} (place : Place) (r : Result A Refusal) (x : A) → judged place r ≡ Ok x → r ≡ Ok x
was_judged place (Ok y) x h = let e : y ≡ x = cc h in ap Ok e
was_judged place (Err refusal) x h = cc h

-- ---- what a text holds

-- objects that are the members of a set that can be read, and their keys
pub record IsSound (objects : Items) (keys : List OctetKey) : Type 0 where
  pub json : AreJsonItems objects
  pub shallow : are_shallow objects ≡ true
  pub own : are_objects objects ≡ true
  pub keys_are : octet_keys limits true objects ≡ Ok keys

pub record IsHeld (text : List ℕ) (held : HeldKeys) : Type 0 where
  pub sound : IsSound held.objects held.keys
  pub reads : key_set limits text true ≡ Ok held.keys
  pub some : not (length held.keys == 0) ≡ true
  pub few : nat_le (items_count held.objects) limits.keys ≡ true

pub held_is : (read : ReadsJson) (keep : KeepJson) (place : Place) (text : List ℕ) (held : HeldKeys) → held_keys place text ≡ Ok held → IsHeld text held
unfolding held_keys
held_is read keep place text held h =
    let a = step (judged place (key_set limits text true)) _ held h in
    let b = step (judged place (json_value text)) _ held a.2 in
    let d = step (judged place (key_objects b.0)) _ held b.2 in
    let alone : Bool = not (is_set b.0) || has_only (codes "keys" ∷ []) b.0 in
    let all : HeldKeys = record { is_set = is_set b.0; objects = d.0; keys = a.0 } in
    let end : Unit {0} → Result HeldKeys ToolCause = λ _. Ok all in
    let e = step (needs alone (At place OtherMember)) (λ _. needs (are_shallow d.0) (At place (Refused Limit)) >>= end) held d.2 in
    let f = step (needs (are_shallow d.0) (At place (Refused Limit))) end held e.2 in
    let reads : key_set limits text true ≡ Ok a.0 = was_judged place (key_set limits text true) a.0 a.1 in
    let value : json_value text ≡ Ok b.0 = was_judged place (json_value text) b.0 b.1 in
    let objects : key_objects b.0 ≡ Ok d.0 = was_judged place (key_objects b.0) d.0 d.1 in
    let json = read text b.0 value in
    let parts = objects_of keep b.0 d.0 json.0 objects in
    let keys = keys_of b.0 d.0 a.0 objects (value_of text b.0 a.0 value reads) in
    let is : IsHeld text all = record {
      sound = record { json = parts.0; shallow = test_passed (are_shallow d.0) (At place (Refused Limit)) f.0 f.1; own = parts.1; keys_are = keys.0 };
      reads = reads;
      some = keys.1;
      few = keys.2;
    } in
    subst (IsHeld text) (ok_is f.2) is
  where
    ok_is : {x y : HeldKeys} → (let r : Result HeldKeys ToolCause = Ok x in r) ≡ Ok y → x ≡ y
    ok_is h = cc h

-- ---- keys that are joined

json_joined : (xs ys : Items) → AreJsonItems xs → AreJsonItems ys → AreJsonItems (joined_items xs ys)
json_joined no_items ys hx hy = hy
json_joined (item x xs) ys hx hy = (hx.0, json_joined xs ys hx.1 hy)

shallow_joined : (xs ys : Items) → are_shallow xs ≡ true → are_shallow ys ≡ true → are_shallow (joined_items xs ys) ≡ true
shallow_joined no_items ys hx hy = hy
shallow_joined (item x xs) ys hx hy = let parts = and_parts (nat_le (depth x) most_depth) (are_shallow xs) hx in
    and_from (nat_le (depth x) most_depth) _ parts.0 (shallow_joined xs ys parts.1 hy)

own_joined : (xs ys : Items) → are_objects xs ≡ true → are_objects ys ≡ true → are_objects (joined_items xs ys) ≡ true
own_joined no_items ys hx hy = hy
own_joined (item x xs) ys hx hy = let parts = and_parts (is_object x) (are_objects xs) hx in
    and_from (is_object x) _ parts.0 (own_joined xs ys parts.1 hy)

one_key : (r : Result OctetKey Refusal) (rest : Result (List OctetKey) Refusal) (ks : List OctetKey) → unless_bad true r rest ≡ Ok ks
    → (key : OctetKey) × ((others : List OctetKey) × ((r ≡ Ok key) × (rest ≡ Ok others) × (ks ≡ key ∷ others)))
one_key (Ok key) (Ok others) ks h = (key, (others, (refl, refl, cc h)))
one_key (Ok key) (Err refusal) ks h = cc h
one_key (Err refusal) rest ks h = cc h

with_key : (r : Result OctetKey Refusal) (rest : Result (List OctetKey) Refusal) (key : OctetKey) (others all : List OctetKey) → r ≡ Ok key
    → rest ≡ Ok others → all ≡ key ∷ others → unless_bad true r rest ≡ Ok all
with_key r rest key others all hr hrest e = rw (hr, hrest, e) refl

keys_joined : (xs ys : Items) (ks ls : List OctetKey) → octet_keys limits true xs ≡ Ok ks → octet_keys limits true ys ≡ Ok ls
    → octet_keys limits true (joined_items xs ys) ≡ Ok (ks ++ ls)
keys_joined no_items ys ks ls hx hy = let e : [] ≡ ks = cc hx in subst (λ front. octet_keys limits true ys ≡ Ok (front ++ ls)) e hy
keys_joined (item x xs) ys ks ls hx hy =
    let found = one_key (octet_key limits x) (octet_keys limits true xs) ks hx in
    with_key (octet_key limits x) (octet_keys limits true (joined_items xs ys)) found.0 (found.1.0 ++ ls) (ks ++ ls) found.1.1.0
    (keys_joined xs ys found.1.0 ls found.1.1.1 hy) (ap (λ front. front ++ ls) found.1.1.2)

apart_joined : (earlier ks ls : List OctetKey) → first_twice earlier ks ≡ None → first_twice (earlier ++ ks) ls ≡ None → first_twice earlier (ks ++ ls) ≡ None
apart_joined earlier [] ls hk hl = subst (λ front. first_twice front ls ≡ None) (append-nil earlier) hl
apart_joined earlier (k ∷ ks) ls hk hl = by_test (has_octets earlier k.octets) hk
    (λ h. apart_joined (earlier ++ k ∷ []) ks ls h (subst (λ front. first_twice front ls ≡ None) (sym (append_assoc earlier (k ∷ []) ks)) hl))
  where
    by_test : (test : Bool) → (if test then Some k else first_twice (earlier ++ k ∷ []) ks) ≡ None
        → (first_twice (earlier ++ k ∷ []) ks ≡ None → first_twice (earlier ++ k ∷ []) (ks ++ ls) ≡ None)
        → (if test then Some k else first_twice (earlier ++ k ∷ []) (ks ++ ls)) ≡ None
    by_test true h later = cc h
    by_test false h later = later h

not_twice : (place : Place) (twice : Option OctetKey) (done : Unit {0}) → none_twice place twice ≡ Ok done → twice ≡ None
not_twice place None done h = refl
not_twice place (Some key) done h = cc h

-- keys that were joined
pub record IsJoined (joined : JoinedKeys) : Type 0 where
  pub sound : IsSound joined.objects joined.keys
  pub apart : first_twice [] joined.keys ≡ None
  pub few : nat_le (items_count joined.objects) limits.keys ≡ true

nothing_joined : IsJoined no_keys
nothing_joined = record { sound = record { json = tt; shallow = refl; own = refl; keys_are = refl }; apart = refl; few = refl }

count_joined : (xs ys : Items) → items_count (joined_items xs ys) ≡ items_count xs + items_count ys
count_joined no_items ys = omega arith
count_joined (item x xs) ys = let e = count_joined xs ys in omega (arith, e)

-- with one more text
with_one : (place : Place) (joined more : JoinedKeys) (text : List ℕ) (held : HeldKeys) → IsJoined joined → IsHeld text held
    → with_keys place joined held ≡ Ok more → IsJoined more × (more.keys ≡ joined.keys ++ held.keys)
unfolding with_keys
with_one place joined more text held j h is =
    let a = step (none_twice place (first_twice joined.keys held.keys)) _ more is in
    let b = step (needs (nat_le (items_count joined.objects + items_count held.objects) limits.keys) _) _ more a.2 in
    let both : IsJoined (record { objects = joined_items joined.objects held.objects; keys = joined.keys ++ held.keys }) = record {
      sound = record {
        json = json_joined joined.objects held.objects j.sound.json h.sound.json;
        shallow = shallow_joined joined.objects held.objects j.sound.shallow h.sound.shallow;
        own = own_joined joined.objects held.objects j.sound.own h.sound.own;
        keys_are = keys_joined joined.objects held.objects joined.keys held.keys j.sound.keys_are h.sound.keys_are;
      };
      apart = apart_joined [] joined.keys held.keys j.apart (not_twice place (first_twice joined.keys held.keys) a.0 a.1);
      few = rw (count_joined joined.objects held.objects) (test_passed _ _ b.0 b.1);
    } in
    let e = joined_is b.2 in
    (subst IsJoined e both, ap (λ (x : JoinedKeys). x.keys) (sym e))
  where
    joined_is : {x y : JoinedKeys} → (let r : Result JoinedKeys ToolCause = Ok x in r) ≡ Ok y → x ≡ y
    joined_is h = cc h

-- with the texts that follow
with_all : (read : ReadsJson) (keep : KeepJson) (at : ℕ) (joined all : JoinedKeys) (texts : List (List ℕ)) → IsJoined joined
    → joined_from at joined texts ≡ Ok all → IsJoined all × ((rest : List OctetKey) × (AreKeysOf texts rest × (all.keys ≡ joined.keys ++ rest)))
with_all read keep at joined all [] j h =
    let e : joined ≡ all = cc h in
    (subst IsJoined e j, ([], (refl, ap (λ (x : JoinedKeys). x.keys) (sym e) ∙ sym (append-nil joined.keys))))
with_all read keep at joined all (text ∷ texts) j h =
    let a = step (with_text (File at) joined text) (λ more. joined_from (at + 1) more texts) all h in
    let b = step (held_keys (File at) text) (with_keys (File at) joined) a.0 a.1 in
    let held = held_is read keep (File at) text b.0 b.1 in
    let one = with_one (File at) joined a.0 text b.0 j held b.2 in
    let later = with_all read keep (at + 1) a.0 all texts one.0 a.2 in (
      later.0,
      (
        b.0.keys ++ later.1.0,
        (
          (b.0.keys, (later.1.0, (held.reads, later.1.1.0, refl))),
          later.1.1.1 ∙ ap (λ ks. ks ++ later.1.0) one.1 ∙ append_assoc joined.keys b.0.keys later.1.0,
        ),
      ),
    )

-- ---- reading back

shallow_depth : (objects : Items) → are_shallow objects ≡ true → items_depth objects ≤ most_depth
shallow_depth no_items h = omega arith
shallow_depth (item x xs) h =
    let parts = and_parts (nat_le (depth x) most_depth) (are_shallow xs) h in
    let here : depth x ≤ most_depth = leb-true (depth x) most_depth parts.0 in
    let later : items_depth xs ≤ most_depth = shallow_depth xs parts.1 in
    omega (arith, here, later)

value_back : (compact : CompactTextReadsBack) (url : UrlTextsAreJson) (objects : Items) (keys : List OctetKey) → IsSound objects keys
    → json_value (set_text objects) ≡ Ok (set_value objects)
value_back compact url objects keys sound =
    let low : items_depth objects ≤ 125 = shallow_depth objects sound.shallow in
    let deep : depth (set_value objects) ≤ 127 = omega (arith, low) in
    compact (set_value objects) ((url (codes "keys") (refl, (refl, (refl, (refl, tt))))).0, tt, sound.json, tt) deep

reads_back : (compact : CompactTextReadsBack) (url : UrlTextsAreJson) (objects : Items) (keys : List OctetKey) → IsSound objects keys
    → nat_le (items_count objects) limits.keys ≡ true → not (length keys == 0) ≡ true → key_set limits (set_text objects) true ≡ Ok keys
unfolding key_set value_keys key_objects
reads_back compact url objects keys sound few some = rw (value_back compact url objects keys sound, sound.own, few, sound.keys_are, some) refl

more_than_some : (own rest : List OctetKey) → not (length own == 0) ≡ true → not (length (own ++ rest) == 0) ≡ true
more_than_some [] rest h = cc h
more_than_some (key ∷ own) rest h = some_length (length (own ++ rest))
  where
    some_length : (n : ℕ) → not (suc n == 0) ≡ true
    some_length n = grind arith

text_is : {x y : List ℕ} → (let r : Result (List ℕ) ToolCause = Ok x in r) ≡ Ok y → x ≡ y
text_is h = cc h

-- the set of keys that were joined
read_as : (compact : CompactTextReadsBack) (url : UrlTextsAreJson) (joined : JoinedKeys) (first : List ℕ) (texts : List (List ℕ)) (text : List ℕ)
    (own rest : List OctetKey) → IsJoined joined → key_set limits first true ≡ Ok own → AreKeysOf texts rest → joined.keys ≡ own ++ rest
    → set_text joined.objects ≡ text → ReadsAs text (first ∷ texts)
read_as compact url joined first texts text own rest j reads others same is =
    let some : not (length joined.keys == 0) ≡ true
    = ap (λ ks. not (length ks == 0)) same ∙ more_than_some own rest (some_keys first own reads) in (
      joined.keys,
      (
        subst (λ t. key_set limits t true ≡ Ok joined.keys) is (reads_back compact url joined.objects joined.keys j.sound j.few some),
        (own, (rest, (reads, others, same))),
        j.apart,
      ),
    )

pub joined_keys_read_back : ReadsJson → KeepJson → CompactTextReadsBack → UrlTextsAreJson → JoinedKeysReadBack
joined_keys_read_back read keep compact url first texts text h =
    let a = step (joined_from 0 no_keys (first ∷ texts)) (λ joined. Ok (set_text joined.objects)) text h in
    let all = with_all read keep 0 no_keys a.0 (first ∷ texts) nothing_joined a.1 in
    let keys = all.1.1.0 in
    read_as compact url a.0 first texts text keys.0 keys.1.0 all.0 keys.1.1.0 keys.1.1.1 (all.1.1.1 ∙ keys.1.1.2) (text_is a.2)

pub added_keys_read_back : ReadsJson → KeepJson → CompactTextReadsBack → UrlTextsAreJson → AddedKeysReadBack
added_keys_read_back read keep compact url set texts text h =
    let a = step (set_keys set) (λ first. joined_from 0 first texts >>= λ joined. Ok (set_text joined.objects)) text h in
    let b = step (held_keys Target set) (λ held. needs held.is_set (At Target NoSet) >>= λ own. with_keys Target no_keys held) a.0 a.1 in
    let d = step (needs b.0.is_set (At Target NoSet)) (λ own. with_keys Target no_keys b.0) a.0 b.2 in
    let held = held_is read keep Target set b.0 b.1 in
    let one = with_one Target no_keys a.0 set b.0 nothing_joined held d.2 in
    let e = step (joined_from 0 a.0 texts) (λ joined. Ok (set_text joined.objects)) text a.2 in
    let all = with_all read keep 0 a.0 e.0 texts one.0 e.1 in
    read_as compact url e.0 set texts text b.0.keys all.1.0 all.0 held.reads all.1.1.0
    (all.1.1.1 ∙ ap (λ ks. ks ++ all.1.0) one.1) (text_is e.2)

-- ---- a set alone

objects_back : (objects : Items) → are_objects objects ≡ true → key_objects (set_value objects) ≡ Ok objects
unfolding key_objects
objects_back objects own = rw own refl

-- The text of a set holds what the set is made of.
held_back : (compact : CompactTextReadsBack) (url : UrlTextsAreJson) (place : Place) (objects : Items) (keys : List OctetKey) → IsSound objects keys
    → nat_le (items_count objects) limits.keys ≡ true → not (length keys == 0) ≡ true
    → held_keys place (set_text objects) ≡ Ok (record { is_set = true; objects = objects; keys = keys })
unfolding held_keys
held_back compact url place objects keys sound few some =
    rw (reads_back compact url objects keys sound few some, value_back compact url objects keys sound, objects_back objects sound.own, sound.shallow) refl

alone_again : (joined : JoinedKeys) (place : Place) → IsJoined joined
    → with_keys place no_keys (record { is_set = true; objects = joined.objects; keys = joined.keys }) ≡ Ok joined
unfolding with_keys
alone_again joined place j = rw (j.apart, add_none (items_count joined.objects), j.few) refl
  where
    add_none : (n : ℕ) → 0 + n ≡ n
    add_none n = omega arith

pub joined_alone_is_the_same : ReadsJson → KeepJson → CompactTextReadsBack → UrlTextsAreJson → JoinedAloneIsTheSame
joined_alone_is_the_same read keep compact url first texts text h =
    let a = step (joined_from 0 no_keys (first ∷ texts)) (λ joined. Ok (set_text joined.objects)) text h in
    let all = with_all read keep 0 no_keys a.0 (first ∷ texts) nothing_joined a.1 in
    let keys = all.1.1.0 in
    let j : IsJoined a.0 = all.0 in
    let some : not (length a.0.keys == 0) ≡ true
    = ap (λ ks. not (length ks == 0)) (all.1.1.1 ∙ keys.1.1.2) ∙ more_than_some keys.0 keys.1.0 (some_keys first keys.0 keys.1.1.0) in
    let is : set_text a.0.objects ≡ text = text_is a.2 in
    subst (λ t. joined_text (t ∷ []) ≡ Ok t) is
    (rw (held_back compact url (File 0) a.0.objects a.0.keys j.sound j.few some, alone_again a.0 (File 0) j) refl)

-- ---- a set without some keys

left_json : (names prints : List (List ℕ)) (objects : Items) → AreJsonItems objects → AreJsonItems (left names prints objects)
left_json names [] objects h = tt
left_json names (print ∷ prints) no_items h = tt
left_json names (print ∷ prints) (item x xs) h = by_test (is_among names print) (left_json names prints xs h.1)
  where
    by_test : (named : Bool) → AreJsonItems (left names prints xs) → AreJsonItems (if named then left names prints xs else item x (left names prints xs))
    by_test true later = later
    by_test false later = (h.0, later)

left_shallow : (names prints : List (List ℕ)) (objects : Items) → are_shallow objects ≡ true → are_shallow (left names prints objects) ≡ true
left_shallow names [] objects h = refl
left_shallow names (print ∷ prints) no_items h = refl
left_shallow names (print ∷ prints) (item x xs) h =
    let parts = and_parts (nat_le (depth x) most_depth) (are_shallow xs) h in by_test (is_among names print) parts.0 (left_shallow names prints xs parts.1)
  where
    by_test : (named : Bool) → nat_le (depth x) most_depth ≡ true → are_shallow (left names prints xs) ≡ true
        → are_shallow (if named then left names prints xs else item x (left names prints xs)) ≡ true
    by_test true here later = later
    by_test false here later = and_from (nat_le (depth x) most_depth) _ here later

left_own : (names prints : List (List ℕ)) (objects : Items) → are_objects objects ≡ true → are_objects (left names prints objects) ≡ true
left_own names [] objects h = refl
left_own names (print ∷ prints) no_items h = refl
left_own names (print ∷ prints) (item x xs) h =
    let parts = and_parts (is_object x) (are_objects xs) h in by_test (is_among names print) parts.0 (left_own names prints xs parts.1)
  where
    by_test : (named : Bool) → is_object x ≡ true → are_objects (left names prints xs) ≡ true
        → are_objects (if named then left names prints xs else item x (left names prints xs)) ≡ true
    by_test true here later = later
    by_test false here later = and_from (is_object x) _ here later

left_count : (names prints : List (List ℕ)) (objects : Items) → items_count (left names prints objects) ≤ items_count objects
left_count names [] objects = omega arith
left_count names (print ∷ prints) no_items = omega arith
left_count names (print ∷ prints) (item x xs) = by_test (is_among names print) (left_count names prints xs)
  where
    by_test : (named : Bool) → items_count (left names prints xs) ≤ items_count xs
        → items_count (if named then left names prints xs else item x (left names prints xs)) ≤ suc (items_count xs)
    by_test true later = omega arith
    by_test false later = omega arith

left_keys : (names : List (List ℕ)) (objects : Items) (keys : List OctetKey) → octet_keys limits true objects ≡ Ok keys
    → octet_keys limits true (left names (thumbprints keys) objects) ≡ Ok (unnamed names keys)
left_keys names no_items keys h = let e : [] ≡ keys = cc h in subst (λ ks. octet_keys limits true (left names (thumbprints ks) no_items) ≡ Ok (unnamed names ks)) e refl
left_keys names (item x xs) keys h =
    let found = one_key (octet_key limits x) (octet_keys limits true xs) keys h in
    subst (λ ks. octet_keys limits true (left names (thumbprints ks) (item x xs)) ≡ Ok (unnamed names ks)) (sym found.1.1.2)
    (by_test found.0 found.1.0 (is_among names (thumbprint_of found.0 S256)) found.1.1.0 (left_keys names xs found.1.0 found.1.1.1))
  where
    by_test : (key : OctetKey) (others : List OctetKey) (named : Bool) → octet_key limits x ≡ Ok key
        → octet_keys limits true (left names (thumbprints others) xs) ≡ Ok (unnamed names others)
        → octet_keys limits true (if named then left names (thumbprints others) xs else item x (left names (thumbprints others) xs))
        ≡ Ok (if not named then key ∷ unnamed names others else unnamed names others)
    by_test key others true here later = later
    by_test key others false here later = with_key (octet_key limits x) (octet_keys limits true (left names (thumbprints others) xs)) key (unnamed names others)
        (key ∷ unnamed names others) here later refl

keys_counted : (objects : Items) (keys : List OctetKey) → octet_keys limits true objects ≡ Ok keys → length keys ≡ items_count objects
keys_counted no_items keys h = let e : [] ≡ keys = cc h in ap length (sym e)
keys_counted (item x xs) keys h =
    let found = one_key (octet_key limits x) (octet_keys limits true xs) keys h in
    ap length found.1.1.2 ∙ ap suc (keys_counted xs found.1.0 found.1.1.1)

pub left_keys_read_back : ReadsJson → KeepJson → CompactTextReadsBack → UrlTextsAreJson → LeftKeysReadBack
unfolding text_without
left_keys_read_back read keep compact url names text changed h =
    let a = step (held_keys Target text) _ changed h in
    let held = held_is read keep Target text a.0 a.1 in
    let prints : List (List ℕ) = thumbprints a.0.keys in
    let objects : Items = left names prints a.0.objects in
    let end : Unit {0} → Result (List ℕ) ToolCause = λ _. Ok (set_text objects) in
    let some : Bool = not (items_count objects == 0) in
    let b = step (all_there (first_unknown 0 prints names)) (λ _. needs some (At Target NoneStays) >>= end) changed a.2 in
    let d = step (needs some (At Target NoneStays)) end changed b.2 in
    let kept : octet_keys limits true objects ≡ Ok (unnamed names a.0.keys) = left_keys names a.0.objects a.0.keys held.sound.keys_are in
    let sound : IsSound objects (unnamed names a.0.keys) = record {
      json = left_json names prints a.0.objects held.sound.json;
      shallow = left_shallow names prints a.0.objects held.sound.shallow;
      own = left_own names prints a.0.objects held.sound.own;
      keys_are = kept;
    } in
    let few : nat_le (items_count objects) limits.keys ≡ true = fewer (items_count objects) (items_count a.0.objects) limits.keys (left_count names prints a.0.objects) held.few in
    let stays : not (length (unnamed names a.0.keys) == 0) ≡ true
    = ap (λ n. not (n == 0)) (keys_counted objects (unnamed names a.0.keys) kept) ∙ test_passed some (At Target NoneStays) d.0 d.1 in (
      a.0.keys,
      (
        held.reads,
        subst (λ t. key_set limits t true ≡ Ok (unnamed names a.0.keys)) (text_is d.2)
            (reads_back compact url objects (unnamed names a.0.keys) sound few stays),
      ),
    )
  where
    fewer : (m n most : ℕ) → m ≤ n → nat_le n most ≡ true → nat_le m most ≡ true
    fewer m n most less h = grind (arith, leb-true n most h)
