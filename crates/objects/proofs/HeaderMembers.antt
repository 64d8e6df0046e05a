-- The entries of a map and the members that they represent.
use Rattle.std.proofs.Common.{◌≡◌, List, [], ◌∷◌, length, ◌==◌, String, string_bytes, Global, not, ap, refl, sym}
use Rattle.std.proofs.Math.Dec.{eqb-suc-zero}
use Rattle.std.specs.BTreeMap.{BTreeMap}
use Rattle.std.specs.List.{AllZip}
use Rattle.serde_json.specs.Data.{object}
use Rattle.serde_json.specs.View.{view, members_view}
use Rattle.serde_json.specs.declared.value.Value.{Value, Object}
use Rattle.serde_json.proofs.Views.{Entry, view-Object}
use Rattle.objects.specs.Texts.{has_members}

-- A copy of the entries represents the same members.
pub copied_members : (entries copies : List Entry) → AllZip (λ (p q : Entry). (string_bytes q.0 ≡ string_bytes p.0) × (view q.1 ≡ view p.1)) entries copies
    → members_view copies ≡ members_view entries
copied_members [] [] h = refl
copied_members [] (copy ∷ copies) h = absurd h
copied_members (entry ∷ entries) [] h = absurd h
copied_members (entry ∷ entries) (copy ∷ copies) h = rw (h.0.0, h.0.1, copied_members entries copies h.1) refl

-- A map is empty exactly if it represents no members.
pub some_members : (entries : List Entry) → has_members (members_view entries) ≡ not (length entries == 0)
some_members [] = refl
some_members (entry ∷ entries) = ap not (sym (eqb-suc-zero (length entries)))

-- An object value represents the object of its members.
pub object_view : (m : BTreeMap (String Global) Value) → view (Object m) ≡ object (members_view m.entries)
object_view m = view-Object m
