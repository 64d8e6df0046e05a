-- How the code writes the text of an object: with its values, or with places left for them.
use Rattle.std.specs.Prelude.{ℕ, Bool, true, false, List, [], ◌∷◌, ◌++◌, codes, if◌then◌else◌, Option, Some, None}
use Rattle.serde_json.specs.Data.{Data, string, object, Members}
use Rattle.serde_json.specs.Written.{compact_text}
use Rattle.octets.specs.Base64url.{base64url}
use Rattle.objects.specs.Texts.{has_members}

-- ---- texts and places (docs/SPECIFICATION.md "Objects" 5)

-- What was written: the texts before the last place, and the text after it; `later`, if the object or list that is written is not empty;
-- and `places`, if places are left for values.
pub record Written : Type 0 where
  pub finished : List (List ℕ)
  pub text : List ℕ
  pub later : Bool
  pub places : Bool

abbrev pub nothing_written : Bool → Written
nothing_written places = record { finished = []; text = []; later = false; places = places }

abbrev pub all_texts : Written → List (List ℕ)
all_texts w = w.finished ++ w.text ∷ []

abbrev pub pushed : List ℕ → Written → Written
pushed text w = record { finished = w.finished; text = w.text ++ text; later = w.later; places = w.places }

abbrev pub slot_by : Bool → List ℕ → Written → Written
slot_by true octets w = record { finished = w.finished ++ w.text ∷ []; text = []; later = w.later; places = w.places }
slot_by false octets w = pushed (base64url octets) w

-- a place, or the base64url text of the octets
abbrev pub with_slot : List ℕ → Written → Written
with_slot octets w = slot_by w.places octets w

-- ---- objects and lists (docs/SPECIFICATION.md "Octets and texts")

-- a bracket with nothing after it yet
abbrev pub opened : List ℕ → Written → Written
opened bracket w = record { finished = w.finished; text = w.text ++ bracket; later = false; places = w.places }

-- a text after which the object or list is not empty
abbrev pub closed : List ℕ → Written → Written
closed bracket w = record { finished = w.finished; text = w.text ++ bracket; later = true; places = w.places }

-- a comma, if the object or list is not empty
abbrev pub comma_by : Bool → Written → Written
comma_by true w = pushed (codes ",") w
comma_by false w = w

abbrev pub separated : Written → Written
separated w = comma_by w.later w

-- the name of a member, which needs no escape
abbrev pub named : List ℕ → Written → Written
named name w = closed (codes "\":") (pushed name (pushed (codes "\"") (separated w)))

-- ---- members (docs/SPECIFICATION.md "Objects" 5)

abbrev pub with_value : List ℕ → Data → Written → Written
with_value name value w = pushed (compact_text value) (named name w)

-- a member that is a text, unless it is empty
abbrev pub with_text : List ℕ → List ℕ → Written → Written
with_text name [] w = w
with_text name (c ∷ text) w = with_value name (string (c ∷ text)) w

-- a member that is a header, unless it has no members
abbrev pub with_header : List ℕ → Members → Written → Written
with_header name header w = if has_members header then with_value name (object header) w else w

-- a member that is the base64url text of the octets, or a place for this text between quotes
abbrev pub place_by : Bool → List ℕ → List ℕ → Written → Written
place_by true name octets w = pushed (codes "\"") (slot_by true octets (pushed (codes "\"") (named name w)))
place_by false name octets w = with_value name (string (base64url octets)) w

abbrev pub with_place : List ℕ → List ℕ → Written → Written
with_place name octets w = place_by w.places name octets w

-- the same of a content, if it is in the text
abbrev pub with_content : List ℕ → Option (List ℕ) → Written → Written
with_content name None w = w
with_content name (Some content) w = with_place name content w

-- the content, unless it is detached
abbrev pub inside : Bool → List ℕ → Option (List ℕ)
inside false content = Some content
inside true content = None

-- the items of a list, each as an object
abbrev pub with_items : {X : Type 0} → (X → Written → Written) → List X → Written → Written
with_items with_one [] w = w
with_items with_one (x ∷ rest) w = with_items with_one rest (closed (codes "}") (with_one x (opened (codes "{") (separated w))))

abbrev pub with_list : {X : Type 0} → List ℕ → (X → Written → Written) → List X → Written → Written
with_list name with_one xs w = closed (codes "]") (with_items with_one xs (opened (codes "[") (named name w)))

-- ---- parts of a compact text (RFC 7515 section 7.1, RFC 7516 section 7.1)

-- a dot and the base64url text of the octets
abbrev pub with_part : List ℕ → Written → Written
with_part octets w = pushed (base64url octets) (pushed (codes ".") w)

-- the same, or a place for it
abbrev pub with_place_part : List ℕ → Written → Written
with_place_part octets w = with_slot octets (pushed (codes ".") w)

-- the part of a content, which is empty if the content is not in the text
abbrev pub with_content_part : Option (List ℕ) → Written → Written
with_content_part None w = pushed (codes ".") w
with_content_part (Some content) w = with_place_part content w
