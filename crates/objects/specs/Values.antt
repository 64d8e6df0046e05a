-- JSON values by lists of their members (RFC 7515 section 7.2, RFC 7516 section 7.2). The pages of the objects list them in byte order of
-- their names, and say which are left out if they are empty (docs/SPECIFICATION.md "Objects" 5).
use Rattle.std.specs.Prelude.{ℕ, Bool, true, false, List, [], ◌∷◌, Option, Some, None}
use Rattle.serde_json.specs.Data.{Data, string, object, Items, no_items, item, Members, no_members, member}

-- ---- members and their values (docs/SPECIFICATION.md "Objects" 5)

-- names in order, each with its value, if there is one
abbrev pub Entries : Type 0
Entries = List (List ℕ × Option Data)

abbrev pub member_if_there : List ℕ → Option Data → Members → Members
member_if_there name None rest = rest
member_if_there name (Some d) rest = member name d rest

-- the members that have a value
abbrev pub present : Entries → Members
present [] = no_members
present (e ∷ rest) = member_if_there e.0 e.1 (present rest)

-- a list of objects (RFC 7515 section 7.2.1, RFC 7516 section 7.2.1)
abbrev pub objects : {X : Type 0} → (X → Entries) → List X → Items
objects members [] = no_items
objects members (x ∷ rest) = item (object (present (members x))) (objects members rest)

-- a text, unless it is empty
abbrev pub text_there : List ℕ → Option Data
text_there [] = None
text_there (c ∷ text) = Some (string (c ∷ text))

-- a header, unless it has no members
abbrev pub header_there : Members → Option Data
header_there no_members = None
header_there (member name value rest) = Some (object (member name value rest))

-- the text of a content, unless it is detached (RFC 7515 appendix F; for a ciphertext docs/SPECIFICATION.md "Objects")
abbrev pub content_there : Bool → List ℕ → Option Data
content_there false text = Some (string text)
content_there true text = None
