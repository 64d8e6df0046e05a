-- The keys that are read from a text are octets.
use Rattle.std.proofs.Common.{◌≡◌, ℕ, Bool, true, false, not, nat_le, ◌==◌, List, [], ◌∷◌, length, codes, Option, Some, None, option_and_then, Result, Ok, Err, refl, ap, subst, if◌then◌else◌}
use Rattle.std.specs.Option.{ok_or}
use Rattle.std.specs.Str.{bytes_eq}
use Rattle.serde_json.specs.Data.{Data, Items, no_items, item}
use Rattle.serde_json.specs.Find.{get, as_str, as_array}
use Rattle.octets.specs.declared.refusal.Refusal.{Refusal}
use Rattle.octets.specs.declared.refusal.Refusal.TheVariants.{Key, Limit}
use Rattle.octets.specs.Base64url.{decoded}
use Rattle.octets.specs.Octets.{IsOctets}
use Rattle.octets.specs.Outcomes.{◌>>=◌, needs, as_refusal}
use Rattle.keys.specs.Json.{json_value, is_object}
use Rattle.keys.specs.JsonTexts.{IsJson, AreJsonItems}
use Rattle.keys.specs.Keys.{OctetKey, AreOctetKeys, key_octets, constrained_key, octet_key}
use Rattle.keys.specs.KeySets.{are_objects, items_count, objects_at, key_objects, unless_bad, octet_keys, value_keys, key_set, KeysHaveOctets}
use Rattle.keys.specs.Limits.{Limits}
use Rattle.keys.specs.Members.{string_member, optional_string_member, optional_strings_member}
use Rattle.keys.proofs.JsonParts.{keep_json}
use Rattle.octets.proofs.Lemmas.{octets_of_meaning, steps, same_answer, is_there}
use Rattle.keys.proofs.TextOctets.{string_octets}
use Rattle.keys.proofs.ValuesRead.{reads_json}

-- ---- one key

-- The text of a member is octets.
member_octets : (name text : List ℕ) (value : Data) → IsJson value → string_member name value ≡ Ok text → IsOctets text
unfolding string_member
member_octets name text value json h = by_member (get name value) refl h
  where
    by_member : (o : Option Data) → get name value ≡ o → ok_or (option_and_then as_str o) Key ≡ Ok text → IsOctets text
    by_member None is h = cc h
    by_member (Some d) is h = string_octets d text (keep_json.found name value d json is).0 (is_there (as_str d) Key text h)

decoded_or_key : (r : Result (List ℕ) Refusal) (octets : List ℕ) → as_refusal Key r ≡ Ok octets → r ≡ Ok octets
decoded_or_key (Ok x) octets h = ap Ok (same_answer x octets h)
decoded_or_key (Err e) octets h = cc h

-- The octets that this text means are octets.
k_octets : (limits : Limits) (value : Data) (octets : List ℕ) → IsJson value → key_octets limits value ≡ Ok octets → IsOctets octets
unfolding key_octets
k_octets limits value octets json h =
    let text = steps (string_member (codes "k") value) _ octets h in
    let found = steps (as_refusal Key (decoded text.0)) _ octets text.2 in
    let in_range = steps (needs _ Key) (λ _. Ok found.0) octets found.2 in
    subst IsOctets (same_answer found.0 octets in_range.2)
    (octets_of_meaning text.0 found.0 (member_octets (codes "k") text.0 value json text.1) (decoded_or_key (decoded text.0) found.0 found.1))

constrained_octets : (octets : List ℕ) (value : Data) (key : OctetKey) → constrained_key octets value ≡ Ok key → octets ≡ key.octets
unfolding constrained_key
constrained_octets octets value key h =
    let alg = steps (optional_string_member (codes "alg") value) _ key h in
    let key_use = steps (optional_string_member (codes "use") value) _ key alg.2 in
    let kid = steps (optional_string_member (codes "kid") value) _ key key_use.2 in
    let key_ops = steps (optional_strings_member (codes "key_ops") value) _ key kid.2 in
    ap (λ (k : OctetKey). k.octets) (same_answer _ key key_ops.2)

octets_of_key : (limits : Limits) (value : Data) (key : OctetKey) → IsJson value → octet_key limits value ≡ Ok key → IsOctets key.octets
unfolding octet_key
octets_of_key limits value key json h =
    let kty = steps (string_member (codes "kty") value) _ key h in
    let oct = steps (needs (bytes_eq kty.0 (codes "oct")) Key) (λ _. key_octets limits value >>= λ octets. constrained_key octets value) key kty.2 in
    let octets = steps (key_octets limits value) (λ octets. constrained_key octets value) key oct.2 in
    subst IsOctets (constrained_octets octets.0 value key octets.2) (k_octets limits value octets.0 json octets.1)

-- ---- the keys of objects

octets_of_keys : (limits : Limits) (strict : Bool) (objects : Items) (keys : List OctetKey) → AreJsonItems objects
    → octet_keys limits strict objects ≡ Ok keys → AreOctetKeys keys
octets_of_keys limits strict no_items keys json h = subst AreOctetKeys (same_answer [] keys h) tt
octets_of_keys limits strict (item value values) keys json h =
    by_key strict (octet_key limits value) refl (octet_keys limits strict values) (λ keys. octets_of_keys limits strict values keys json.1) h
  where
    by_rest : (key : OctetKey) → IsOctets key.octets → (rest : Result (List OctetKey) Refusal) → ((keys : List OctetKey) → rest ≡ Ok keys → AreOctetKeys keys)
        → (rest >>= λ others. Ok (key ∷ others)) ≡ Ok keys → AreOctetKeys keys
    by_rest key octets (Ok rest) others h = subst AreOctetKeys (same_answer (key ∷ rest) keys h) (octets, others rest refl)
    by_rest key octets (Err e) others h = cc h

    by_key : (strict : Bool) (r : Result OctetKey Refusal) → octet_key limits value ≡ r → (rest : Result (List OctetKey) Refusal)
        → ((keys : List OctetKey) → rest ≡ Ok keys → AreOctetKeys keys)
        → unless_bad strict r rest ≡ Ok keys → AreOctetKeys keys
    by_key strict (Ok key) is rest others h = by_rest key (octets_of_key limits value key json.0 is) rest others h
    by_key true (Err e) is rest others h = cc h
    by_key false (Err e) is rest others h = others keys h

-- ---- the objects of a text

json_at : (value : Data) (o : Option Data) (objects : Items) → IsJson value → get (codes "keys") value ≡ o
    → objects_at value o ≡ Ok objects → AreJsonItems objects
json_at value None objects json is h = subst AreJsonItems (same_answer (item value no_items) objects h) (json, tt)
json_at value (Some list) objects json is h =
    let values = steps (ok_or (as_array list) Key) (λ values. needs (are_objects values) Key >>= λ _. Ok values) objects h in
    let good = steps (needs (are_objects values.0) Key) (λ _. Ok values.0) objects values.2 in
    subst AreJsonItems (same_answer values.0 objects good.2)
    (keep_json.items_of list values.0 (keep_json.found (codes "keys") value list json is).0 (is_there (as_array list) Key values.0 values.1)).0

json_objects : (value : Data) (objects : Items) → IsJson value → key_objects value ≡ Ok objects → AreJsonItems objects
unfolding key_objects
json_objects value objects json h = by_test (is_object value) h
  where
    by_test : (test : Bool) → (if test then objects_at value (get (codes "keys") value) else Err Key) ≡ Ok objects → AreJsonItems objects
    by_test true h = json_at value (get (codes "keys") value) objects json refl h
    by_test false h = cc h

octets_of_value : (limits : Limits) (value : Data) (strict : Bool) (keys : List OctetKey) → IsJson value
    → value_keys limits value strict ≡ Ok keys → AreOctetKeys keys
unfolding value_keys
octets_of_value limits value strict keys json h =
    let objects = steps (key_objects value) _ keys h in
    let good : List OctetKey → Result (List OctetKey) Refusal = λ keys. needs (not (length keys == 0)) Key >>= λ _. Ok keys in
    let few = steps (needs (nat_le (items_count objects.0) limits.keys) Limit) (λ _. octet_keys limits strict objects.0 >>= good) keys objects.2 in
    let found = steps (octet_keys limits strict objects.0) good keys few.2 in
    let some = steps (needs (not (length found.0 == 0)) Key) (λ _. Ok found.0) keys found.2 in
    subst AreOctetKeys (same_answer found.0 keys some.2)
    (octets_of_keys limits strict objects.0 found.0 (json_objects value objects.0 json objects.1) found.1)

pub keys_have_octets : KeysHaveOctets
unfolding key_set
keys_have_octets limits text strict keys h =
    let value = steps (json_value text) (λ value. value_keys limits value strict) keys h in
    octets_of_value limits value.0 strict keys (reads_json text value.0 value.1).0 value.2
