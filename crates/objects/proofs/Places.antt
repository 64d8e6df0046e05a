-- Texts that are written with places for values, and the same texts with the values written at once.
use Rattle.std.proofs.Common.{◌≡◌, ℕ, suc, ◌+◌, List, [], ◌∷◌, ◌++◌, length, map, codes, Bool, true, false, if◌then◌else◌, refl, sym, ap, ◌∙◌, subst, arith, append_assoc, append-nil, length-append}
use Rattle.std.proofs.lemmas.List.{length-map}
use Rattle.serde_json.specs.Data.{Data, string, object, Members, no_members, member}
use Rattle.serde_json.specs.Written.{compact_text}
use Rattle.octets.specs.Base64url.{base64url}
use Rattle.octets.specs.Octets.{IsOctets}
use Rattle.octets.proofs.Lemmas.{has_url_characters}
use Rattle.keys.proofs.Lemmas.{url_texts_are_json}
use Rattle.objects.specs.Code.Frames.{filled, in_places}
use Rattle.objects.specs.Code.Writing.{Written, nothing_written, all_texts, pushed, slot_by, with_slot, opened, closed, comma_by, separated, named, with_value, with_text, with_header, place_by, with_place, with_content, inside, with_part, with_place_part, with_content_part}
use Rattle.objects.proofs.Characters.{IsUrlText}

-- ---- values in places

-- the finished texts, each followed by a value
abbrev front : List (List ℕ) → List (List ℕ) → List ℕ
front [] values = []
front (text ∷ rest) [] = text ++ front rest []
front (text ∷ rest) (value ∷ values) = text ++ (value ++ front rest values)

filled_last : (texts values : List (List ℕ)) (last : List ℕ) → length texts ≡ length values → filled (texts ++ last ∷ []) values ≡ front texts values ++ last
filled_last [] [] last h = refl
filled_last [] (v ∷ values) last h = absurd (omega (arith, h))
filled_last (t ∷ texts) [] last h = absurd (omega (arith, h))
filled_last (t ∷ texts) (v ∷ values) last h =
    ap (λ l. t ++ (v ++ l)) (filled_last texts values last (omega (arith, h))) ∙ simp append_assoc

front_more : (texts values : List (List ℕ)) (text value : List ℕ) → length texts ≡ length values
    → front (texts ++ text ∷ []) (values ++ value ∷ []) ≡ front texts values ++ (text ++ value)
front_more [] [] text value h = ap (λ l. text ++ l) (append-nil value)
front_more [] (v ∷ values) text value h = absurd (omega (arith, h))
front_more (t ∷ texts) [] text value h = absurd (omega (arith, h))
front_more (t ∷ texts) (v ∷ values) text value h =
    ap (λ l. t ++ (v ++ l)) (front_more texts values text value (omega (arith, h))) ∙ simp append_assoc

-- the text with places becomes the other one when these values are inserted
pub record Fills (w : Written) (values : List (List ℕ)) (v : Written) : Type 0 where
  pub leaves : w.places ≡ true
  pub whole : v.places ≡ false
  pub count : length w.finished ≡ length values
  pub text : front w.finished values ++ w.text ≡ v.text
  pub later : w.later ≡ v.later

pub is_filled : (w : Written) (values : List (List ℕ)) (v : Written) → Fills w values v → filled (all_texts w) values ≡ v.text
is_filled w values v f = filled_last w.finished values w.text f.count ∙ f.text

pub places_count : (w : Written) (values : List (List ℕ)) (v : Written) → Fills w values v → length (all_texts w) ≡ suc (length values)
places_count w values v f = length-append w.finished (w.text ∷ []) ∙ omega (arith, f.count)

-- ---- texts and places

pub fills_nothing : Fills (nothing_written true) [] (nothing_written false)
fills_nothing = record { leaves = refl; whole = refl; count = refl; text = refl; later = refl }

pub fills_pushed : (x : List ℕ) (w : Written) (values : List (List ℕ)) (v : Written) → Fills w values v → Fills (pushed x w) values (pushed x v)
fills_pushed x w values v f = record {
  leaves = f.leaves;
  whole = f.whole;
  count = f.count;
  text = sym (append_assoc (front w.finished values) w.text x) ∙ ap (λ l. l ++ x) f.text;
  later = f.later;
}

pub fills_closed : (x : List ℕ) (w : Written) (values : List (List ℕ)) (v : Written) → Fills w values v → Fills (closed x w) values (closed x v)
fills_closed x w values v f = let p = fills_pushed x w values v f in record { leaves = p.leaves; whole = p.whole; count = p.count; text = p.text; later = refl }

pub fills_opened : (x : List ℕ) (w : Written) (values : List (List ℕ)) (v : Written) → Fills w values v → Fills (opened x w) values (opened x v)
fills_opened x w values v f = let p = fills_pushed x w values v f in record { leaves = p.leaves; whole = p.whole; count = p.count; text = p.text; later = refl }

-- A place takes the value.
fills_left : (own octets : List ℕ) (w : Written) (values : List (List ℕ)) (v : Written) → Fills w values v
    → Fills (slot_by true own w) (values ++ base64url octets ∷ []) (slot_by false octets v)
fills_left own octets w values v f =
    let value : List ℕ = base64url octets in
    record {
      leaves = f.leaves;
      whole = f.whole;
      count = length-append w.finished (w.text ∷ []) ∙ ap (λ n. n + 1) f.count ∙ sym (length-append values (value ∷ []));
      text = append-nil _ ∙ front_more w.finished values w.text value f.count ∙ sym (append_assoc (front w.finished values) w.text value)
          ∙ ap (λ l. l ++ value) f.text;
      later = f.later;
    }

fills_slot : (own octets : List ℕ) (w : Written) (values : List (List ℕ)) (v : Written) → Fills w values v
    → Fills (with_slot own w) (values ++ base64url octets ∷ []) (with_slot octets v)
fills_slot own octets w values v f =
    let both : List (List ℕ) = values ++ base64url octets ∷ [] in
    subst (λ b. Fills (slot_by b own w) both (with_slot octets v)) (sym f.leaves)
    (subst (λ b. Fills (slot_by true own w) both (slot_by b octets v)) (sym f.whole) (fills_left own octets w values v f))

-- ---- members

fills_comma : (b : Bool) (w : Written) (values : List (List ℕ)) (v : Written) → Fills w values v → Fills (comma_by b w) values (comma_by b v)
fills_comma true w values v f = fills_pushed (codes ",") w values v f
fills_comma false w values v f = f

pub fills_separated : (w : Written) (values : List (List ℕ)) (v : Written) → Fills w values v → Fills (separated w) values (separated v)
fills_separated w values v f = subst (λ b. Fills (separated w) values (comma_by b v)) f.later (fills_comma w.later w values v f)

pub fills_named : (name : List ℕ) (w : Written) (values : List (List ℕ)) (v : Written) → Fills w values v → Fills (named name w) values (named name v)
fills_named name w values v f = fills_closed (codes "\":") _ values _
    (fills_pushed name _ values _ (fills_pushed (codes "\"") _ values _ (fills_separated w values v f)))

fills_value : (name : List ℕ) (d : Data) (w : Written) (values : List (List ℕ)) (v : Written) → Fills w values v
    → Fills (with_value name d w) values (with_value name d v)
fills_value name d w values v f = fills_pushed (compact_text d) _ values _ (fills_named name w values v f)

pub fills_text : (name text : List ℕ) (w : Written) (values : List (List ℕ)) (v : Written) → Fills w values v
    → Fills (with_text name text w) values (with_text name text v)
fills_text name [] w values v f = f
fills_text name (c ∷ text) w values v f = fills_value name (string (c ∷ text)) w values v f

pub fills_header : (name : List ℕ) (header : Members) (w : Written) (values : List (List ℕ)) (v : Written) → Fills w values v
    → Fills (with_header name header w) values (with_header name header v)
fills_header name no_members w values v f = f
fills_header name (member k d header) w values v f = fills_value name (object (member k d header)) w values v f

-- In quotes, the base64url text of octets is a JSON string, since it needs no escape.
quoted_text : (octets : List ℕ) (w : Written) → IsUrlText (base64url octets)
    → pushed (codes "\"") (slot_by false octets (pushed (codes "\"") w)) ≡ pushed (compact_text (string (base64url octets))) w
quoted_text octets w plain =
    let text : List ℕ = base64url octets in
    ap (λ (t : List ℕ). let x : Written = record { finished = w.finished; text = t; later = w.later; places = w.places } in x)
    (append_assoc (w.text ++ codes "\"") text (codes "\"") ∙ append_assoc w.text (codes "\"") (text ++ codes "\"")
    ∙ ap (λ l. w.text ++ l) (sym (url_texts_are_json text plain).1))

comma_places : (b : Bool) (w : Written) → (comma_by b w).places ≡ w.places
comma_places true w = refl
comma_places false w = refl

-- A member is written, or a place is left for its value.
pub placed : (name octets : List ℕ) (w : Written) → IsOctets octets
    → pushed (codes "\"") (with_slot octets (pushed (codes "\"") (named name w))) ≡ with_place name octets w
placed name octets w is = subst (λ b. pushed (codes "\"") (slot_by b octets (pushed (codes "\"") (named name w))) ≡ with_place name octets w)
    (sym (comma_places w.later w)) (by_places w.places)
  where
    by_places : (b : Bool) → pushed (codes "\"") (slot_by b octets (pushed (codes "\"") (named name w))) ≡ place_by b name octets w
    by_places true = refl
    by_places false = quoted_text octets (named name w) (has_url_characters octets is)

pub fills_place : (name own octets : List ℕ) (w : Written) (values : List (List ℕ)) (v : Written) → IsOctets octets → Fills w values v
    → Fills (with_place name own w) (values ++ base64url octets ∷ []) (with_place name octets v)
fills_place name own octets w values v is f =
    let both : List (List ℕ) = values ++ base64url octets ∷ [] in
    let opened_text = fills_pushed (codes "\"") _ values _ (fills_named name w values v f) in
    let left = fills_pushed (codes "\"") _ both _ (fills_left own octets _ values _ opened_text) in
    subst (λ b. Fills (place_by b name own w) both (with_place name octets v)) (sym f.leaves)
    (subst (λ b. Fills (place_by true name own w) both (place_by b name octets v)) (sym f.whole)
    (subst (Fills (place_by true name own w) both) (quoted_text octets (named name v) (has_url_characters octets is)) left))

-- The member of a content comes before all others.
pub fills_content : (name : List ℕ) (detach : Bool) (own content : List ℕ) (w v : Written) → IsOctets content → Fills w [] v
    → Fills (with_content name (inside detach own) w) (in_places detach content []) (with_content name (inside detach content) v)
fills_content name true own content w v is f = f
fills_content name false own content w v is f = fills_place name own content w [] v is f

-- ---- parts of a compact text

pub fills_part : (octets : List ℕ) (w : Written) (values : List (List ℕ)) (v : Written) → Fills w values v
    → Fills (with_part octets w) values (with_part octets v)
fills_part octets w values v f = fills_pushed (base64url octets) _ values _ (fills_pushed (codes ".") w values v f)

pub fills_place_part : (own octets : List ℕ) (w : Written) (values : List (List ℕ)) (v : Written) → Fills w values v
    → Fills (with_place_part own w) (values ++ base64url octets ∷ []) (with_place_part octets v)
fills_place_part own octets w values v f = fills_slot own octets _ values _ (fills_pushed (codes ".") w values v f)

pub fills_content_part : (detach : Bool) (own content : List ℕ) (w v : Written) → Fills w [] v
    → Fills (with_content_part (inside detach own) w) (in_places detach content []) (with_content_part (inside detach content) v)
fills_content_part true own content w v f = fills_pushed (codes ".") w [] v f
fills_content_part false own content w v f = fills_place_part own content w [] v f

-- ---- the values of all places

-- The values of all places are the text of the content and the texts of the others.
pub places_are : (detach : Bool) (content : List ℕ) (others : List (List ℕ))
    → in_places detach content [] ++ map base64url others ≡ in_places detach content others
places_are true content others = refl
places_are false content others = refl

-- There is one text more than there are values.
pub texts_count : (detach : Bool) (content : List ℕ) (others : List (List ℕ))
    → suc (length (in_places detach content others)) ≡ (if detach then 1 else 2) + length others
texts_count true content others = ap suc (length-map others base64url) ∙ omega arith
texts_count false content others = ap (λ n. suc (suc n)) (length-map others base64url) ∙ omega arith
