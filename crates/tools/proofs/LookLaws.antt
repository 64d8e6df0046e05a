-- What jose-look never shows.
use Rattle.std.proofs.Common.{◌≡◌, ◌∙◌, ◌||◌, ◌++◌, ℕ, codes, Bool, true, false, List, [], ◌∷◌, Some, Err, if◌then◌else◌, refl, ap, sym}
use Rattle.std.proofs.lemmas.Bool.{false≢true}
use Rattle.std.specs.Str.{bytes_eq}
use Rattle.serde_json.specs.Data.{Data, null, boolean, number, string, array, object, Items, no_items, item, Members, no_members, member}
use Rattle.serde_json.specs.Written.{compact_text}
use Rattle.octets.specs.LineEnds.{without_line_end}
use Rattle.keys.specs.Json.{json_value}
use Rattle.keys.specs.Texts.{is_among}
use Rattle.objects.specs.Texts.{is_json_form}
use Rattle.tools.specs.declared.text_kind.TextKind.TheVariants.{NoJson}
use Rattle.tools.specs.LookCalls.{file_lines}
use Rattle.tools.specs.LookedObjects.{shown_header}
use Rattle.tools.specs.Looks.{compact_lines, json_lines, look_lines, title}
use Rattle.tools.specs.LookLaws.{DamagedTextsAreHidden, HideSecrets, LooksArePrinted, TextsHideSecrets, with_secrets, items_with_secrets, members_with_secrets}
use Rattle.tools.specs.ShownValues.{hidden, object_names, secret_names, shown, shown_items, shown_members, shown_text}
use Rattle.tools.proofs.ReportLaws.{printed_shown}

pub looks_are_printed : LooksArePrinted
looks_are_printed name text = printed_shown (file_lines name text)

-- what a member is shown as does not depend on its secret value
member_hidden : (names : List (List ℕ)) (f : Data → Data) (d : Data) (secret among : Bool) → (secret ≡ true → among ≡ true)
    → shown names (with_secrets f d) ≡ shown names d
    → (if among then hidden else shown names (if secret then f d else with_secrets f d)) ≡ (if among then hidden else shown names d)
member_hidden names f d secret true hides same = refl
member_hidden names f d false false hides same = same
member_hidden names f d true false hides same = absurd (false≢true (hides refl))

mutual
  pub secrets_are_hidden : (names : List (List ℕ)) (f : Data → Data) (d : Data) → HideSecrets names → shown names (with_secrets f d) ≡ shown names d
  secrets_are_hidden names f null hides = refl
  secrets_are_hidden names f (boolean b) hides = refl
  secrets_are_hidden names f (number n) hides = refl
  secrets_are_hidden names f (string s) hides = refl
  secrets_are_hidden names f (array ds) hides = ap array (items_hidden names f ds hides)
  secrets_are_hidden names f (object ms) hides = ap object (members_hidden names f ms hides)

  items_hidden : (names : List (List ℕ)) (f : Data → Data) (ds : Items) → HideSecrets names → shown_items names (items_with_secrets f ds) ≡ shown_items names ds
  items_hidden names f no_items hides = refl
  items_hidden names f (item d ds) hides =
      ap (λ first. item first (shown_items names (items_with_secrets f ds))) (secrets_are_hidden names f d hides)
      ∙ ap (λ rest. item (shown names d) rest) (items_hidden names f ds hides)

  members_hidden : (names : List (List ℕ)) (f : Data → Data) (ms : Members) → HideSecrets names
      → shown_members names (members_with_secrets f ms) ≡ shown_members names ms
  members_hidden names f no_members hides = refl
  members_hidden names f (member name d ms) hides =
      ap (λ first. member name first (shown_members names (members_with_secrets f ms)))
      (member_hidden names f d (is_among secret_names name) (is_among names name) (hides name) (secrets_are_hidden names f d hides))
      ∙ ap (λ rest. member name (if is_among names name then hidden else shown names d) rest) (members_hidden names f ms hides)

-- ---- the names of objects

three_or : (x y z : Bool) → (x || (y || (z || true))) ≡ true
three_or true y z = refl
three_or false true z = refl
three_or false false true = refl
three_or false false false = refl

hides_in_objects : HideSecrets object_names
hides_in_objects name among =
    let payload : Bool = bytes_eq (codes "payload") name in
    let ciphertext : Bool = bytes_eq (codes "ciphertext") name in
    let protected : Bool = bytes_eq (codes "protected") name in
    ap (λ rest. payload || (ciphertext || (protected || rest))) among ∙ three_or payload ciphertext protected

-- ---- texts

pub texts_hide_secrets : TextsHideSecrets
texts_hide_secrets f text other value differing is other_is same =
    let object_same : shown object_names differing ≡ shown object_names value =
    ap (shown object_names) same ∙ secrets_are_hidden object_names f value hides_in_objects in
    let key_same : shown_text secret_names differing ≡ shown_text secret_names value =
    ap (λ d. compact_text (shown secret_names d)) same ∙ ap compact_text (secrets_are_hidden secret_names f value (λ name among. among)) in
    (ap (λ d. codes "object: " ++ compact_text d) object_same, key_same, ap shown_header other_is ∙ key_same ∙ sym (ap shown_header is))

pub damaged_texts_are_hidden : DamagedTextsAreHidden
damaged_texts_are_hidden name text other refusal form other_form bad other_bad = alone text form bad ∙ sym (alone other other_form other_bad)
  where
    alone : (t : List ℕ) → is_json_form t ≡ true → json_value t ≡ Err refusal → look_lines name t ≡ title name NoJson (Some refusal) ∷ []
    alone t its_form is = ap (λ test. if test then json_lines name t (json_value t) else compact_lines name t (without_line_end t)) its_form
        ∙ ap (json_lines name t) is
