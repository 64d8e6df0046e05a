-- The entries of a map and the members that they represent.
use Rattle.std.proofs.Common.{◌≡◌, not, List, [], ◌∷◌, length, ◌==◌, String, string_bytes, Global, true, false, Result, Ok, Err, IfOk, sym, ap, ◌∙◌, refl}
use Rattle.std.proofs.Math.Dec.{eqb-suc-zero}
use Rattle.std.specs.BTreeMap.{BTreeMap}
use Rattle.serde_json.specs.Data.{Members, no_members, member, object}
use Rattle.serde_json.specs.View.{view, members_view}
use Rattle.serde_json.specs.Written.{compact_text, has_float, members_have_float}
use Rattle.serde_json.proofs.Views.{Entry, view-Object}
use Rattle.serde_json.specs.declared.value.Value.{Value, Object}
use Rattle.objects.specs.Texts.{has_members}
use Rattle.tokens.specs.Template.{is_empty, header_text}

-- A header that is empty has no members.
pub no_members_there : (header : Members) → is_empty header ≡ true → not (has_members header) ≡ true
no_members_there no_members h = refl
no_members_there (member k d rest) h = cc h

pub empty_members : (entries : List Entry) → is_empty (members_view entries) ≡ (length entries == 0)
empty_members [] = refl
empty_members (entry ∷ entries) = sym (eqb-suc-zero (length entries))

-- The text of a header that is not empty is the compact text of its members.
pub text_of_some : (entries : List Entry) → (length entries == 0) ≡ false → header_text (members_view entries) ≡ compact_text (object (members_view entries))
text_of_some [] h = cc h
text_of_some (entry ∷ entries) h = refl

pub text_of_none : (entries : List Entry) → (length entries == 0) ≡ true → header_text (members_view entries) ≡ []
text_of_none [] h = refl
text_of_none (entry ∷ entries) h = let no : false ≡ true = sym (eqb-suc-zero (length entries)) ∙ h in cc no

-- The text that is written for a header that is not empty is the text of the header.
pub written_text : {E : Type 0} (m : BTreeMap (String Global) Value) (result : Result (String Global) E) → members_have_float (members_view m.entries) ≡ false
    → (length m.entries == 0) ≡ false
    → IfOk result (λ text. has_float (view (Object m)) ≡ false → string_bytes text ≡ compact_text (view (Object m)))
    → IfOk result (λ text. string_bytes text ≡ header_text (members_view m.entries))
written_text m (Ok text) none some is = is (ap has_float (view-Object m) ∙ none) ∙ ap compact_text (view-Object m) ∙ sym (text_of_some m.entries some)
written_text m (Err e) none some is = tt
