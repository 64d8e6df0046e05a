-- The places of signatures and of recipients, which are an object itself or the items of its list (docs/SPECIFICATION.md "Tools").
use Rattle.std.specs.Prelude.{ℕ, ◌+◌, true, false, List, [], ◌∷◌, ◌++◌, codes, decimal, map, Option, Some, None, Result, Ok}
use Rattle.std.specs.Result.{result_err}
use Rattle.serde_json.specs.Data.{Data, Items, no_items, item, Members, no_members}
use Rattle.serde_json.specs.Find.{get, as_array}
use Rattle.octets.specs.declared.refusal.Refusal.{Refusal}
use Rattle.octets.specs.declared.refusal.Refusal.TheVariants.{Limit}
use Rattle.octets.specs.Base64url.{decoded}
use Rattle.octets.specs.Outcomes.{◌>>=◌, needs}
use Rattle.keys.specs.KeySets.{items_count}
use Rattle.keys.specs.Limits.{are_few, limits}
use Rattle.objects.specs.Headers.{header_at, protected_members}
use Rattle.objects.specs.Jwe.{no_recipient_at}
use Rattle.objects.specs.Jws.{no_signature_at}
use Rattle.objects.specs.Texts.{object_list, required_text, text_at}
use Rattle.tools.specs.LookedObjects.{items_or_none}
use Rattle.tools.specs.Places.{Place, SharedHeaders, joint_places, shared_by}

-- ---- members (RFC 7515 section 7.2, RFC 7516 section 7.2)

-- the members of a protected header of this text
unfoldable pub protected_of : List ℕ → Result Members Refusal
protected_of text = do
  octets ← decoded text
  protected_members octets

unfoldable pub protected_at : Data → Result Members Refusal
protected_at value = do
  text ← text_at (codes "protected") value
  protected_of text

-- the octets of a member, which may be absent
unfoldable pub octets_at : List ℕ → Data → Result (List ℕ) Refusal
octets_at name value = do
  text ← text_at name value
  decoded text

unfoldable pub signature_at : Data → Result (List ℕ) Refusal
signature_at value = do
  text ← required_text (codes "signature") value
  decoded text

-- ---- a signature (RFC 7515 section 7.2.1)

-- its headers, and how its other member is refused
pub record ReadSignature : Type 0 where
  pub protected : Result Members Refusal
  pub header : Result Members Refusal
  pub signature : Option Refusal

abbrev pub signature_of : Data → ReadSignature
signature_of value = record {
  protected = protected_at value;
  header = header_at (codes "header") value;
  signature = result_err (signature_at value);
}

unfoldable pub signature_members : ReadSignature → List Place
signature_members s = (codes "protected", result_err s.protected) ∷ (codes "header", result_err s.header) ∷ (codes "signature", s.signature) ∷ []

unfoldable pub signature_places : ReadSignature → List Place
signature_places s = signature_members s ++ joint_places false s.header (shared_by s.protected (Ok no_members))

-- ---- a recipient (RFC 7516 section 7.2.1)

pub record ReadRecipient : Type 0 where
  pub header : Result Members Refusal
  pub encrypted_key : Option Refusal

abbrev pub recipient_of : Data → ReadRecipient
recipient_of value = record { header = header_at (codes "header") value; encrypted_key = result_err (octets_at (codes "encrypted_key") value) }

unfoldable pub recipient_members : ReadRecipient → List Place
recipient_members r = (codes "encrypted_key", r.encrypted_key) ∷ (codes "header", result_err r.header) ∷ []

unfoldable pub recipient_places : Option SharedHeaders → ReadRecipient → List Place
recipient_places shared r = recipient_members r ++ joint_places true r.header shared

-- ---- the items of a list (RFC 7515 section 7.2.1, RFC 7516 section 7.2.1)

-- what a list may hold
pub data ItemKind : Type 0 where
  Signature : ItemKind
  Recipient : Option SharedHeaders → ItemKind

abbrev pub list_name : ItemKind → List ℕ
list_name Signature = codes "signatures"
list_name (Recipient shared) = codes "recipients"

abbrev pub item_name : ItemKind → List ℕ
item_name Signature = codes "signature"
item_name (Recipient shared) = codes "recipient"

abbrev pub item_places : ItemKind → Data → List Place
item_places Signature value = signature_places (signature_of value)
item_places (Recipient shared) value = recipient_places shared (recipient_of value)

-- next to the list the object may have no member of an item
abbrev pub beside_list : ItemKind → Data → Place
beside_list Signature value = (codes "a member of a signature next to signatures", result_err (no_signature_at value))
beside_list (Recipient shared) value = (codes "a member of a recipient next to recipients", result_err (no_recipient_at value))

-- at least one object, and not too many
unfoldable pub few_objects : Data → Result (Unit {0}) Refusal
few_objects list = do
  items ← object_list list
  needs (are_few limits (items_count items)) Limit

abbrev pub item_text : List ℕ → ℕ → List ℕ
item_text name n = codes " of " ++ (name ++ (codes " " ++ decimal n))

-- a place in the item of this number
abbrev pub of_item : List ℕ → ℕ → Place → Place
of_item name n place = (place.0 ++ item_text name n, place.1)

-- the places of the items, the first of which has this number
abbrev pub each_item_places : ItemKind → ℕ → Items → List Place
each_item_places kind n no_items = []
each_item_places kind n (item value values) = map (of_item (item_name kind) n) (item_places kind value) ++ each_item_places kind (n + 1) values

-- the list itself, and what is next to it
unfoldable pub list_places : ItemKind → Data → Data → List Place
list_places kind value list = (list_name kind, result_err (few_objects list)) ∷ beside_list kind value ∷ []

-- The object itself has the members of an item, or its list has the items.
abbrev pub listed_by : ItemKind → Data → Option Data → List Place
listed_by kind value None = item_places kind value
listed_by kind value (Some list) = list_places kind value list ++ each_item_places kind 1 (items_or_none (as_array list))

unfoldable pub listed_places : ItemKind → Data → List Place
listed_places kind value = listed_by kind value (get (list_name kind) value)
