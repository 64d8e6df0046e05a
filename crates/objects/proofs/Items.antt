-- Lists of values and the items that they represent.
use Rattle.std.proofs.Common.{◌≡◌, ℕ, zero, suc, ◌<◌, ◌==◌, false, not, List, [], ◌∷◌, length, map, get_or, Result, Ok, refl, sym, ap, ◌∙◌, arith}
use Rattle.std.proofs.Math.Dec.{eqb-suc-zero}
use Rattle.std.proofs.lemmas.Bool.{or_parts}
use Rattle.serde_json.specs.Data.{Data}
use Rattle.serde_json.specs.View.{view, items_view}
use Rattle.serde_json.specs.Written.{has_float, items_have_float}
use Rattle.serde_json.specs.declared.value.Value.{Value}
use Rattle.octets.specs.declared.refusal.Refusal.{Refusal}
use Rattle.octets.specs.Outcomes.{◌>>=◌}
use Rattle.objects.specs.Texts.{each, each_item, has_items}
use Rattle.objects.proofs.Each.{with_done, with_none_done, with_one_refused}

-- There are no items exactly if there are no values.
pub some_items : (values : List Value) → has_items (items_view values) ≡ not (length values == 0)
some_items [] = refl
some_items (v ∷ values) = ap not (sym (eqb-suc-zero (length values)))

-- Items are read the same as the list of their values.
each_view : {Y : Type 0} (read : Data → Result Y Refusal) (values : List Value) → each_item read (items_view values) ≡ each read (map view values)
each_view read [] = refl
each_view read (v ∷ values) = ap (λ rest. read (view v) >>= λ first. rest >>= λ others. Ok (first ∷ others)) (each_view read values)

pub with_no_item_done : {Y : Type 0} (read : Data → Result Y Refusal) (values : List Value)
    → each_item read (items_view values) ≡ with_done read [] (map view values)
with_no_item_done read values = each_view read values ∙ with_none_done read (map view values)

-- ---- values without floats

-- If items have no float, none of the values has one.
pub no_float_at : (values : List Value) (i : ℕ) (d : Value) → i < length values → items_have_float (items_view values) ≡ false
    → has_float (view (get_or values i d)) ≡ false
no_float_at [] i d lt h = absurd (omega (arith, lt))
no_float_at (v ∷ values) zero d lt h = (or_parts (has_float (view v)) (items_have_float (items_view values)) h).0
no_float_at (v ∷ values) (suc i) d lt h = no_float_at values i d (omega (arith, lt)) (or_parts (has_float (view v)) (items_have_float (items_view values)) h).1

-- rules for a loop that reads one value after another
pub ruleset reading = (with_no_item_done, with_one_refused, no_float_at)
