-- What values of the code hold of the places of an object, as contracts see it.
use Rattle.std.specs.Borrow.{Bor}
use Rattle.std.specs.Prelude.{ℕ, List, ◌++◌, Option, Some, None, option_map, Result, Ok, Err}
use Rattle.serde_json.specs.View.{members_view}
use Rattle.octets.specs.declared.refusal.Refusal.{Refusal}
use Rattle.objects.specs.Code.Views.{part_view}
use Rattle.tools.specs.declared.found_place.FoundPlace.{FoundPlace}
use Rattle.tools.specs.declared.item_places.ItemKind as code
use Rattle.tools.specs.declared.item_places.ItemKind.TheVariants as kind
use Rattle.tools.specs.declared.item_places.ReadRecipient as recipient
use Rattle.tools.specs.declared.item_places.ReadSignature as signature
use Rattle.tools.specs.declared.object_places.ReadEncrypted as encrypted
use Rattle.tools.specs.declared.shared_headers.SharedHeaders as shared
use Rattle.tools.specs.ItemPlaces.{ItemKind, ReadRecipient, ReadSignature, Recipient, Signature, item_text}
use Rattle.tools.specs.ObjectPlaces.{ReadEncrypted}
use Rattle.tools.specs.Places.{SharedHeaders, shared_headers}

-- the result, seen by view
abbrev pub result_seen : {X Y : Type 0} → (X → Y) → Result X Refusal → Result Y Refusal
result_seen view (Ok x) = Ok (view x)
result_seen view (Err refusal) = Err refusal

abbrev pub in_item : List ℕ → Option (Bor (List ℕ) × ℕ) → List ℕ
in_item name None = name
in_item name (Some item) = name ++ item_text item.0.now item.1

abbrev pub place_text : FoundPlace → List ℕ
place_text place = in_item place.name.now place.item

abbrev pub shared_view : shared.SharedHeaders → SharedHeaders
shared_view headers = shared_headers (part_view headers.protected) (part_view headers.unprotected)

abbrev pub signature_view : signature.ReadSignature → ReadSignature
signature_view s = record {
  protected = result_seen (λ map. members_view map.entries) s.protected;
  header = result_seen part_view s.header;
  signature = s.signature;
}

abbrev pub recipient_view : recipient.ReadRecipient → ReadRecipient
recipient_view r = record { header = result_seen part_view r.header; encrypted_key = r.encrypted_key }

abbrev pub encrypted_view : encrypted.ReadEncrypted → ReadEncrypted
encrypted_view e = record {
  protected = result_seen (λ map. members_view map.entries) e.protected;
  unprotected = result_seen part_view e.unprotected;
  aad = e.aad;
  iv = e.iv;
  ciphertext = e.ciphertext;
  tag = e.tag;
}

abbrev pub kind_view : code.ItemKind → ItemKind
kind_view kind.Signature = Signature
kind_view (kind.Recipient headers) = Recipient (option_map shared_view headers)
