-- The members of a key text, and the good ones among them.
use Rattle.std.proofs.Common.{◌≡◌, ◌==◌, ℕ, suc, arith, not, nat_le, Bool, true, false, List, [], ◌∷◌, ◌++◌, length, map, option_map, is_some, Option, Some, None, Result, Ok, Err, refl, sym, ap, ◌∙◌, append_assoc}
use Rattle.std.proofs.lemmas.List.{map-append}
use Rattle.std.specs.List.{list_any}
use Rattle.std.specs.Result.{result_ok}
use Rattle.serde_json.specs.Data.{Data, Items, no_items, item}
use Rattle.serde_json.specs.View.{view, items_view}
use Rattle.serde_json.specs.declared.value.Value.{Value}
use Rattle.octets.specs.declared.refusal.Refusal.{Refusal}
use Rattle.octets.specs.declared.refusal.Refusal.TheVariants.{Key as BadKey, Limit}
use Rattle.octets.specs.Outcomes.{◌>>=◌, needs}
use Rattle.keys.specs.declared.key.Key.{Key}
use Rattle.keys.specs.Json.{json_value}
use Rattle.keys.specs.Keys.{OctetKey, octet_key}
use Rattle.keys.specs.KeySets.{items_count, key_objects, unless_bad, octet_keys, value_keys, key_set}
use Rattle.keys.specs.SetMembers.{members_of, key_members, good_members, KeysAreGoodMembers}
use Rattle.keys.specs.Code.Views.{key_view}
use Rattle.keys.specs.Limits.{Limits, limits}

-- ---- one after another

-- the members so far, followed by those of the objects that are left
abbrev pub members_with : List (Option Key) → List Value → List (Option OctetKey)
members_with done left = map (option_map key_view) done ++ members_of limits (items_view left)

one_more : (done : List (Option Key)) (member : Option Key) (read : Option OctetKey) (left : List Value) → read ≡ option_map key_view member
    → map (option_map key_view) done ++ (read ∷ members_of limits (items_view left)) ≡ members_with (done ++ member ∷ []) left
one_more done member read left is =
    ap (λ first. map (option_map key_view) done ++ (first ∷ members_of limits (items_view left))) is
    ∙ sym (append_assoc (map (option_map key_view) done) (option_map key_view member ∷ []) (members_of limits (items_view left)))
    ∙ ap (λ front. front ++ members_of limits (items_view left)) (sym (map-append (option_map key_view) done (member ∷ [])))

pub members_with-good : (done : List (Option Key)) (key : Key) (value : Value) (left : List Value) → octet_key limits (view value) ≡ Ok (key_view key)
    → members_with done (value ∷ left) ≡ members_with (done ++ Some key ∷ []) left
members_with-good done key value left is = one_more done (Some key) (result_ok (octet_key limits (view value))) left (ap result_ok is)

pub members_with-bad : (done : List (Option Key)) (value : Value) (left : List Value) (refusal : Refusal) → octet_key limits (view value) ≡ Err refusal
    → members_with done (value ∷ left) ≡ members_with (done ++ None ∷ []) left
members_with-bad done value left refusal is = one_more done None (result_ok (octet_key limits (view value))) left (ap result_ok is)

-- ---- the good ones

one_of : (r : Result OctetKey Refusal) (keys : Result (List OctetKey) Refusal) (members : List (Option OctetKey)) → keys ≡ Ok (good_members members)
    → unless_bad false r keys ≡ Ok (good_members (result_ok r ∷ members))
one_of (Ok key) keys members rest = ap (λ keys. keys >>= λ others. Ok (key ∷ others)) rest
one_of (Err refusal) keys members rest = rest

-- Without the bad ones, the keys of objects are the good members.
keys_are_good : (all : Limits) (objects : Items) → octet_keys all false objects ≡ Ok (good_members (members_of all objects))
keys_are_good all no_items = refl
keys_are_good all (item value values) =
    one_of (octet_key all value) (octet_keys all false values) (members_of all values) (keys_are_good all values)

is_some_length : (n : ℕ) → not (suc n == 0) ≡ true
is_some_length n = grind arith

-- There are keys exactly if some member is good.
some_are_good : (members : List (Option OctetKey)) → not (length (good_members members) == 0) ≡ list_any is_some members
some_are_good [] = refl
some_are_good (None ∷ members) = some_are_good members
some_are_good (Some key ∷ members) = is_some_length (length (good_members members))

-- the good members of those that are accepted
abbrev the_good : Result (List (Option OctetKey)) Refusal → Result (List OctetKey) Refusal
the_good members = members >>= λ members. Ok (good_members members)

abbrev some_of : List OctetKey → Result (List OctetKey) Refusal
some_of keys = needs (not (length keys == 0)) BadKey >>= λ some. Ok keys

abbrev some_members : List (Option OctetKey) → Result (List (Option OctetKey)) Refusal
some_members members = needs (list_any is_some members) BadKey >>= λ some. Ok members

some_alike : (members : List (Option OctetKey)) → some_of (good_members members) ≡ the_good (some_members members)
some_alike members = ap (λ test. needs test BadKey >>= λ some. Ok (good_members members)) (some_are_good members) ∙ by_test (list_any is_some members)
  where
    by_test : (test : Bool) → (needs test BadKey >>= λ some. Ok (good_members members)) ≡ the_good (needs test BadKey >>= λ some. Ok members)
    by_test true = refl
    by_test false = refl

few_alike : (all : Limits) (objects : Items) (few : Bool)
    → (needs few Limit >>= λ few. octet_keys all false objects >>= some_of) ≡ the_good (needs few Limit >>= λ few. some_members (members_of all objects))
few_alike all objects false = refl
few_alike all objects true = ap (λ keys. keys >>= some_of) (keys_are_good all objects) ∙ some_alike (members_of all objects)

pub keys_are_good_members : KeysAreGoodMembers
unfolding key_set value_keys key_members
keys_are_good_members limits text = by_value (json_value text)
  where
    by_objects : (r : Result Items Refusal)
        → (r >>= λ objects. needs (nat_le (items_count objects) limits.keys) Limit >>= λ few. octet_keys limits false objects >>= some_of)
        ≡ the_good (r >>= λ objects. needs (nat_le (items_count objects) limits.keys) Limit >>= λ few. some_members (members_of limits objects))
    by_objects (Ok objects) = few_alike limits objects (nat_le (items_count objects) limits.keys)
    by_objects (Err refusal) = refl

    by_value : (r : Result Data Refusal)
        → (r >>= λ value. value_keys limits value false)
        ≡ the_good (r >>= λ value. key_objects value >>= λ objects. needs (nat_le (items_count objects) limits.keys) Limit
        >>= λ few. some_members (members_of limits objects))
    by_value (Ok value) = by_objects (key_objects value)
    by_value (Err refusal) = refl

-- Some member that was read is good exactly if its key is.
pub some_viewed : (members : List (Option Key)) → list_any is_some (map (option_map key_view) members) ≡ list_any (λ member. is_some (option_map key_view member)) members
some_viewed [] = refl
some_viewed (None ∷ members) = some_viewed members
some_viewed (Some key ∷ members) = refl
