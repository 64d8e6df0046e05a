-- Values as jose-look shows them: a hidden member has another value (docs/SPECIFICATION.md "Tools").
use Rattle.std.specs.Prelude.{ℕ, List, [], ◌∷◌, codes, if◌then◌else◌}
use Rattle.serde_json.specs.Data.{Data, null, boolean, number, string, array, object, Items, no_items, item, Members, no_members, member}
use Rattle.serde_json.specs.Written.{compact_text}
use Rattle.keys.specs.Texts.{is_among}

-- the secret members of keys (RFC 7518 sections 6.2.2, 6.3.2 and 6.4.1)
abbrev pub secret_names : List (List ℕ)
secret_names = codes "k" ∷ codes "d" ∷ codes "p" ∷ codes "q" ∷ codes "dp" ∷ codes "dq" ∷ codes "qi" ∷ codes "oth" ∷ []

-- ---- shown values (docs/SPECIFICATION.md "Tools")

-- In an object the content and the protected headers are hidden too.
abbrev pub object_names : List (List ℕ)
object_names = codes "payload" ∷ codes "ciphertext" ∷ codes "protected" ∷ secret_names

abbrev pub hidden : Data
hidden = string (codes "..")

-- Each member of one of these names is hidden, at any depth.
abbrev mutual
  pub shown : List (List ℕ) → Data → Data
  shown names null = null
  shown names (boolean b) = boolean b
  shown names (number n) = number n
  shown names (string s) = string s
  shown names (array ds) = array (shown_items names ds)
  shown names (object ms) = object (shown_members names ms)

  pub shown_items : List (List ℕ) → Items → Items
  shown_items names no_items = no_items
  shown_items names (item d ds) = item (shown names d) (shown_items names ds)

  pub shown_members : List (List ℕ) → Members → Members
  shown_members names no_members = no_members
  shown_members names (member name d ms) = member name (if is_among names name then hidden else shown names d) (shown_members names ms)

abbrev pub shown_text : List (List ℕ) → Data → List ℕ
shown_text names value = compact_text (shown names value)
