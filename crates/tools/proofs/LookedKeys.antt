-- The lines of keys.
use Rattle.std.proofs.Common.{◌≡◌, ◌∙◌, ℕ, Bool, true, false, nat_le, List, [], ◌∷◌, is_some, Option, None, Some, Result, Ok, Err, refl, ap, sym}
use Rattle.std.proofs.lemmas.Bool.{or_parts}
use Rattle.std.specs.List.{list_any}
use Rattle.std.specs.Result.{result_ok, result_unwrap_or}
use Rattle.serde_json.specs.Data.{Data, Items, no_items, item}
use Rattle.octets.specs.declared.refusal.Refusal.{Refusal}
use Rattle.octets.specs.declared.refusal.Refusal.TheVariants.{Key, Limit}
use Rattle.octets.specs.Outcomes.{◌>>=◌, needs}
use Rattle.keys.specs.Json.{json_value}
use Rattle.keys.specs.Keys.{OctetKey, octet_key}
use Rattle.keys.specs.KeySets.{items_count, key_objects}
use Rattle.keys.specs.Limits.{limits}
use Rattle.keys.specs.SetMembers.{key_members, members_of}
use Rattle.tools.specs.LookedKeys.{each_key_line, key_line}

-- ---- the members of a text

bind_assoc : {A B C : Type 0} (r : Result A Refusal) (f : A → Result B Refusal) (g : B → Result C Refusal) → (r >>= λ x. f x >>= g) ≡ ((r >>= f) >>= g)
bind_assoc (Ok x) f g = refl
bind_assoc (Err e) f g = refl

abbrev if_few : Items → Result (List (Option OctetKey)) Refusal
if_few objects = needs (nat_le (items_count objects) limits.keys) Limit >>= λ few. needs (list_any is_some (members_of limits objects)) Key >>= λ some. Ok (members_of limits objects)

-- the members of the objects, if one of them is good
members_are : (text : List ℕ) (objects : Items) → (json_value text >>= key_objects) ≡ Ok objects → nat_le (items_count objects) limits.keys ≡ true
    → key_members limits text ≡ (needs (list_any is_some (members_of limits objects)) Key >>= λ some. Ok (members_of limits objects))
unfolding key_members
members_are text objects read few = bind_assoc (json_value text) key_objects if_few ∙ ap (λ r. r >>= if_few) read
    ∙ ap (λ test. needs test Limit >>= λ few. needs (list_any is_some (members_of limits objects)) Key >>= λ some. Ok (members_of limits objects)) few

pub good_keys : (text : List ℕ) (objects : Items) (keys : List (Option OctetKey)) → (json_value text >>= key_objects) ≡ Ok objects
    → nat_le (items_count objects) limits.keys ≡ true → key_members limits text ≡ Ok keys → keys ≡ members_of limits objects
good_keys text objects keys read few is = by_test (list_any is_some (members_of limits objects)) (sym (members_are text objects read few) ∙ is)
  where
    by_test : (some : Bool) → (needs some Key >>= λ done. Ok (members_of limits objects)) ≡ Ok keys → keys ≡ members_of limits objects
    by_test true same = sym (ap (λ r. result_unwrap_or r []) same)
    by_test false same = cc

no_key : (d : Data) (key : Option OctetKey) → is_some key ≡ false → key_line d key ≡ key_line d None
no_key d None none = refl
no_key d (Some key) none = cc

none_good : (objects : Items) → list_any is_some (members_of limits objects) ≡ false → each_key_line objects (members_of limits objects) ≡ each_key_line objects []
none_good no_items none = refl
none_good (item d ds) none =
    let parts = or_parts (is_some (result_ok (octet_key limits d))) (list_any is_some (members_of limits ds)) none in
    ap (λ line. line ∷ each_key_line ds (members_of limits ds)) (no_key d (result_ok (octet_key limits d)) parts.0)
    ∙ ap (λ lines. key_line d None ∷ lines) (none_good ds parts.1)

pub no_good_keys : (text : List ℕ) (objects : Items) (refusal : Refusal) → (json_value text >>= key_objects) ≡ Ok objects
    → nat_le (items_count objects) limits.keys ≡ true → key_members limits text ≡ Err refusal
    → each_key_line objects [] ≡ each_key_line objects (members_of limits objects)
no_good_keys text objects refusal read few is = sym (none_good objects (by_test (list_any is_some (members_of limits objects)) (sym (members_are text objects read few) ∙ is)))
  where
    by_test : (some : Bool) → (needs some Key >>= λ done. Ok (members_of limits objects)) ≡ Err refusal → some ≡ false
    by_test true same = cc
    by_test false same = refl
