-- Members that are written one after another, and the compact text of the object with these members.
use Rattle.std.proofs.Common.{◌≡◌, ℕ, List, [], ◌∷◌, ◌++◌, codes, Bool, true, false, refl, sym, ap, ◌∙◌, subst, append_assoc, append-nil}
use Rattle.std.specs.List.{list_all}
use Rattle.serde_json.specs.Data.{Data, string, array, object, Members, no_members, member}
use Rattle.serde_json.specs.Written.{comma_if, compact_text, members_text, items_text}
use Rattle.octets.specs.Base64url.{base64url, is_url_character}
use Rattle.keys.proofs.Lemmas.{url_texts_are_json}
use Rattle.objects.specs.Code.Writing.{Written, nothing_written, pushed, opened, closed, comma_by, named, with_value, with_text, with_header, place_by, with_place, with_content, inside, with_items, with_list}
use Rattle.objects.specs.Values.{Entries, member_if_there, present, objects, text_there, header_there, content_there}
use Rattle.objects.proofs.Characters.{IsUrlText}
use Rattle.objects.proofs.EachRead.{all_passed}

-- the text that is written, without places, and the rest make up a text
pub record Begins (w : Written) (rest all : List ℕ) : Type 0 where
  pub whole : w.places ≡ false
  pub text : w.text ++ rest ≡ all

-- If no rest is left, the text is complete.
pub is_whole : (w : Written) (all : List ℕ) → Begins w [] all → w.text ≡ all
is_whole w all b = sym (append-nil w.text) ∙ b.text

at_rest : (w : Written) (rest other all : List ℕ) → rest ≡ other → Begins w rest all → Begins w other all
at_rest w rest other all same b = subst (λ r. Begins w r all) same b

-- ---- texts

begins_pushed : (x : List ℕ) (w : Written) (rest all : List ℕ) → Begins w (x ++ rest) all → Begins (pushed x w) rest all
begins_pushed x w rest all b = record { whole = b.whole; text = append_assoc w.text x rest ∙ b.text }

-- With a closing or opening bracket, the text still begins the whole.
pub begins_closed : (x : List ℕ) (w : Written) (rest all : List ℕ) → Begins w (x ++ rest) all → Begins (closed x w) rest all
begins_closed x w rest all b = let p = begins_pushed x w rest all b in record { whole = p.whole; text = p.text }

pub begins_opened : (x : List ℕ) (w : Written) (rest all : List ℕ) → Begins w (x ++ rest) all → Begins (opened x w) rest all
begins_opened x w rest all b = let p = begins_pushed x w rest all b in record { whole = p.whole; text = p.text }

-- ---- names and values

-- A base64url text needs no escape.
quoted : (text rest : List ℕ) → IsUrlText text → compact_text (string text) ++ rest ≡ codes "\"" ++ (text ++ (codes "\"" ++ rest))
quoted text rest is = ap (λ t. t ++ rest) (url_texts_are_json text is).1 ∙ ap (λ t. 34 ∷ t) (append_assoc text (34 ∷ []) rest)

begins_comma : (b : Bool) (w : Written) (rest all : List ℕ) → Begins w (comma_if b ++ rest) all → Begins (comma_by b w) rest all
begins_comma true w rest all b = begins_pushed (codes ",") w rest all b
begins_comma false w rest all b = b

-- After its name, the value is still to be written.
begins_named : (name : List ℕ) (d : Data) (ms : Members) (tail : List ℕ) (w : Written) (all : List ℕ) → list_all is_url_character name ≡ true
    → Begins w (members_text w.later (member name d ms) ++ tail) all → Begins (named name w) (compact_text d ++ (members_text true ms ++ tail)) all
begins_named name d ms tail w all is b =
    let value : List ℕ = compact_text d ++ (members_text true ms ++ tail) in
    let split : members_text w.later (member name d ms) ++ tail ≡ comma_if w.later ++ (codes "\"" ++ (name ++ (codes "\":" ++ value))) =
    append_assoc (comma_if w.later) _ tail
    ∙ ap (λ l. comma_if w.later ++ l) (append_assoc (compact_text (string name)) _ tail
    ∙ ap (λ l. compact_text (string name) ++ 58 ∷ l) (append_assoc (compact_text d) (members_text true ms) tail)
    ∙ quoted name (58 ∷ value) (all_passed is_url_character name is)) in
    let before = begins_comma w.later w (codes "\"" ++ (name ++ (codes "\":" ++ value))) all (at_rest w _ _ all split b) in
    begins_closed (codes "\":") _ value all (begins_pushed name _ (codes "\":" ++ value) all
    (begins_pushed (codes "\"") _ (name ++ (codes "\":" ++ value)) all before))

begins_value : (name : List ℕ) (d : Data) (ms : Members) (tail : List ℕ) (w : Written) (all : List ℕ) → list_all is_url_character name ≡ true
    → Begins w (members_text w.later (member name d ms) ++ tail) all → Begins (with_value name d w) (members_text true ms ++ tail) all
begins_value name d ms tail w all is b = begins_pushed (compact_text d) (named name w) (members_text true ms ++ tail) all
    (begins_named name d ms tail w all is b)

-- ---- members

-- A text is written if it is there.
pub begins_text : (name text : List ℕ) (ms : Members) (tail : List ℕ) (w : Written) (all : List ℕ) → list_all is_url_character name ≡ true
    → Begins w (members_text w.later (member_if_there name (text_there text) ms) ++ tail) all
    → Begins (with_text name text w) (members_text (with_text name text w).later ms ++ tail) all
begins_text name [] ms tail w all is b = b
begins_text name (c ∷ text) ms tail w all is b = begins_value name (string (c ∷ text)) ms tail w all is b

-- A header is written if it is there.
pub begins_header : (name : List ℕ) (header ms : Members) (tail : List ℕ) (w : Written) (all : List ℕ) → list_all is_url_character name ≡ true
    → Begins w (members_text w.later (member_if_there name (header_there header) ms) ++ tail) all
    → Begins (with_header name header w) (members_text (with_header name header w).later ms ++ tail) all
begins_header name no_members ms tail w all is b = b
begins_header name (member k d header) ms tail w all is b = begins_value name (object (member k d header)) ms tail w all is b

-- The text of octets is written as a value.
pub begins_place : (name octets : List ℕ) (ms : Members) (tail : List ℕ) (w : Written) (all : List ℕ) → list_all is_url_character name ≡ true
    → Begins w (members_text w.later (member name (string (base64url octets)) ms) ++ tail) all
    → Begins (with_place name octets w) (members_text (with_place name octets w).later ms ++ tail) all
begins_place name octets ms tail w all is b =
    subst (λ p. Begins (place_by p name octets w) (members_text (place_by p name octets w).later ms ++ tail) all) (sym b.whole)
    (begins_value name (string (base64url octets)) ms tail w all is b)

-- The text of a content is written unless it is detached.
pub begins_content : (name : List ℕ) (detach : Bool) (content : List ℕ) (ms : Members) (tail : List ℕ) (w : Written) (all : List ℕ)
    → list_all is_url_character name ≡ true
    → Begins w (members_text w.later (member_if_there name (content_there detach (base64url content)) ms) ++ tail) all
    → Begins (with_content name (inside detach content) w) (members_text (with_content name (inside detach content) w).later ms ++ tail) all
begins_content name true content ms tail w all is b = b
begins_content name false content ms tail w all is b = begins_place name content ms tail w all is b

-- ---- lists

-- each element is written up to the closing brace after its members
abbrev pub WritesEach : {X : Type 0} → (X → Written → Written) → (X → Entries) → Type 0
WritesEach {X} with_one members = (x : X) (tail : List ℕ) (w : Written) (all : List ℕ)
    → Begins w (members_text w.later (present (members x)) ++ tail) all → Begins (with_one x w) (codes "}" ++ tail) all

begins_items : {X : Type 0} (with_one : X → Written → Written) (members : X → Entries) (xs : List X) → WritesEach with_one members
    → (tail : List ℕ) (w : Written) (all : List ℕ) → Begins w (items_text w.later (objects members xs) ++ tail) all
    → Begins (with_items with_one xs w) (codes "]" ++ tail) all
begins_items with_one members [] writes tail w all b = b
begins_items with_one members (x ∷ xs) writes tail w all b =
    let ms : Members = present (members x) in
    let others : List ℕ = items_text true (objects members xs) ++ tail in
    let split : items_text w.later (objects members (x ∷ xs)) ++ tail ≡ comma_if w.later ++ (codes "{" ++ (members_text false ms ++ others)) =
    append_assoc (comma_if w.later) _ tail
    ∙ ap (λ l. comma_if w.later ++ 123 ∷ l) (append_assoc (members_text false ms) (items_text true (objects members xs)) tail) in
    let brace = begins_comma w.later w (codes "{" ++ (members_text false ms ++ others)) all (at_rest w _ _ all split b) in
    let one = writes x others _ all (begins_opened (codes "{") _ (members_text false ms ++ others) all brace) in
    begins_items with_one members xs writes tail _ all (begins_closed (codes "}") _ others all one)

pub begins_list : {X : Type 0} (name : List ℕ) (with_one : X → Written → Written) (members : X → Entries) (xs : List X)
    → WritesEach with_one members → (ms : Members) (tail : List ℕ) (w : Written) (all : List ℕ) → list_all is_url_character name ≡ true
    → Begins w (members_text w.later (member name (array (objects members xs)) ms) ++ tail) all
    → Begins (with_list name with_one xs w) (members_text true ms ++ tail) all
begins_list name with_one members xs writes ms tail w all is b =
    let list = objects members xs in
    let rest : List ℕ = members_text true ms ++ tail in
    let value = begins_named name (array list) ms tail w all is b in
    let items = begins_opened (codes "[") (named name w) (items_text false list ++ rest) all value in
    begins_closed (codes "]") _ rest all (begins_items with_one members xs writes rest _ all items)

-- ---- the whole text

-- After its opening brace, the members of an object are still to be written.
pub begins_object : (ms : Members) → Begins (opened (codes "{") (nothing_written false)) (members_text false ms ++ []) (compact_text (object ms))
begins_object ms = record { whole = refl; text = ap (λ t. 123 ∷ t) (append-nil (members_text false ms)) }
