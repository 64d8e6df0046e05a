-- The key objects of values.
use Rattle.std.proofs.Common.{◌≡◌, Bool, true, false, if◌then◌else◌, codes, Option, Some, None, Ok, Err, refl}
use Rattle.serde_json.specs.Data.{Data, null, boolean, number, string, array, object, Items, no_items, item}
use Rattle.serde_json.specs.Find.{get}
use Rattle.serde_json.specs.Written.{has_float, items_have_float}
use Rattle.octets.specs.declared.refusal.Refusal.TheVariants.{Key}
use Rattle.octets.specs.Outcomes.{◌>>=◌, needs}
use Rattle.keys.specs.Json.{is_object, KeepFloatsOut}
use Rattle.keys.specs.KeySets.{are_objects, key_objects, objects_at}
use Rattle.tools.specs.declared.tool_cause.Place.{Place}
use Rattle.tools.specs.Sets.{judged}

-- If a value has no float, its key objects have none.
pub no_float_in : (laws : KeepFloatsOut) (place : Place) (value : Data) (objects : Items) → has_float value ≡ false
    → Ok objects ≡ judged place (key_objects value) → items_have_float objects ≡ false
unfolding key_objects
no_float_in laws place value objects whole is = by_object (is_object value) is
  where
    by_items : (items : Items) (test : Bool) → items_have_float items ≡ false
        → Ok objects ≡ judged place (needs test Key >>= λ own. Ok items) → items_have_float objects ≡ false
    by_items items true none h = let e : objects ≡ items = cc h in rw e none
    by_items items false none h = cc h

    by_list : (list : Data) → has_float list ≡ false → Ok objects ≡ judged place (objects_at value (Some list)) → items_have_float objects ≡ false
    by_list null none h = cc h
    by_list (boolean b) none h = cc h
    by_list (number n) none h = cc h
    by_list (string s) none h = cc h
    by_list (array items) none h = by_items items (are_objects items) none h
    by_list (object entries) none h = cc h

    by_found : (found : Option Data) → get (codes "keys") value ≡ found → Ok objects ≡ judged place (objects_at value found) → items_have_float objects ≡ false
    by_found None at h = let e : objects ≡ item value no_items = cc h in rw (e, whole) refl
    by_found (Some list) at h = by_list list (laws.found (codes "keys") value list whole at) h

    by_object : (test : Bool) → Ok objects ≡ judged place (if test then objects_at value (get (codes "keys") value) else Err Key)
        → items_have_float objects ≡ false
    by_object true h = by_found (get (codes "keys") value) refl h
    by_object false h = cc h
