-- What values of the code hold, as contracts see it.
use Rattle.std.specs.Borrow.{Bor}
use Rattle.std.specs.BTreeMap.{BTreeMap}
use Rattle.std.specs.Prelude.{ℕ, Bool, true, false, List, Option, Some, None, String, map, string_bytes, []}
use Rattle.std.specs.declared.alloc.Global.{Global}
use Rattle.serde_json.specs.Data.{Members, no_members}
use Rattle.serde_json.specs.View.{members_view}
use Rattle.serde_json.specs.declared.value.Value.{Value}
use Rattle.octets.specs.Base64url.{base64url}
use Rattle.ciphers.specs.Algorithms.{management_name, encryption_name}
use Rattle.objects.specs.Headers.{all_members}
use Rattle.objects.specs.Jwe.{RecipientParts, Recipient, JweParts, EncryptedObject}
use Rattle.objects.specs.Jws.{SignatureParts, JwsParts, Signature, DecodedSignature, HeadedSignature, SignedObject}
use Rattle.objects.specs.Code.KeyManagementView.{management_view}
use Rattle.objects.specs.Code.Meaning.{meaning}
use Rattle.objects.specs.Code.Writing.{Written}
use Rattle.objects.specs.declared.content.Content.{Content}
use Rattle.objects.specs.declared.content.Content.TheVariants.{Text, Octets}
use Rattle.objects.specs.declared.writer.TextWriter as writer
use Rattle.objects.specs.declared.header.Header as header
use Rattle.objects.specs.declared.jwe.Jwe as jwe
use Rattle.objects.specs.declared.jwe.parts.JweMembers as jwe_members
use Rattle.objects.specs.declared.jwe.parts.JweParts as jwe_parts
use Rattle.objects.specs.declared.jwe.parts.MadeEncryptedObject as made_jwe
use Rattle.objects.specs.declared.jwe.parts.MadeRecipient as made_recipient
use Rattle.objects.specs.declared.jwe.encoded.EncodedJwe as texts
use Rattle.objects.specs.declared.jwe.encoded.EncodedRecipient as encoded_recipient
use Rattle.objects.specs.declared.jws.parts.DecodedSignature as decoded
use Rattle.objects.specs.declared.jws.signature.HeadedSignature as headed
use Rattle.objects.specs.declared.jws.Jws as jws
use Rattle.objects.specs.declared.jws.parts.JwsParts as jws_parts
use Rattle.objects.specs.declared.jws.signature.Signature as signature
use Rattle.objects.specs.declared.jws.parts.SignatureMembers as signature_members
use Rattle.objects.specs.declared.jws.parts.SignatureParts as signature_parts
use Rattle.objects.specs.declared.jws.parts.MadeSignature as made_signature
use Rattle.keys.specs.Algorithms.{signature_name}
use Rattle.objects.specs.declared.jws.encoded.EncodedJws as encoded_jws
use Rattle.objects.specs.declared.jws.encoded.EncodedSignature as encoded_signature
use Rattle.objects.specs.declared.content.payload.HeldContent as held
use Rattle.objects.specs.declared.content.payload.HeldContent.TheVariants.{Text as HeldText, Octets as HeldOctets}
use Rattle.objects.specs.declared.content.payload.Payload as payload
use Rattle.objects.specs.declared.content.payload.Payload.TheVariants.{Text as PayloadText, Octets as PayloadOctets}
use Rattle.objects.specs.declared.content.received_text.ReceivedText as received
use Rattle.objects.specs.declared.jwe.recipient.Recipient as recipient
use Rattle.objects.specs.declared.jwe.parts.RecipientMembers as members
use Rattle.objects.specs.declared.jwe.parts.RecipientParts as parts

-- ---- headers

-- the members of a part; an absent part has none
abbrev pub part_view : Option (Bor (BTreeMap (String Global) Value)) → Members
part_view None = no_members
part_view (Some part) = members_view part.now.entries

-- the members of all its parts
abbrev pub header_view : header.Header → Members
header_view h = all_members (part_view h.protected) (part_view h.unprotected) (part_view h.per_recipient)

-- ---- the content

-- the text of the content
abbrev pub content_text_view : Content → List ℕ
content_text_view (Text text) = text.now
content_text_view (Octets octets) = base64url octets.items

-- the content is held as its text, and not as octets
abbrev pub content_is_text : Content → Bool
content_is_text (Text text) = true
content_is_text (Octets octets) = false

-- the octets that a text means
abbrev pub received_view : received.ReceivedText → List ℕ
received_view t = meaning t.text.now

-- the octets of a content, however it is held
abbrev pub held_view : held.HeldContent → List ℕ
held_view (HeldText text) = received_view text
held_view (HeldOctets octets) = octets.now

abbrev pub is_text : held.HeldContent → Bool
is_text (HeldText text) = true
is_text (HeldOctets octets) = false

-- ---- signed objects

abbrev pub payload_is_text : payload.Payload → Bool
payload_is_text (PayloadText text) = true
payload_is_text (PayloadOctets octets) = false

abbrev pub payload_view : payload.Payload → List ℕ
payload_view (PayloadText text) = received_view text
payload_view (PayloadOctets octets) = octets.items

abbrev pub encoded_signature_view : encoded_signature.EncodedSignature → SignatureParts
encoded_signature_view t = record { protected = t.protected.now; header = members_view t.header.map.entries; signature = t.signature.now }

abbrev pub encoded_jws_view : encoded_jws.EncodedJws → JwsParts
encoded_jws_view t = record { payload = content_text_view t.payload; signatures = map encoded_signature_view t.signatures.items }

abbrev pub signature_parts_view : signature_parts.SignatureParts → SignatureParts
signature_parts_view p = record { protected = string_bytes p.protected; header = members_view p.header.entries; signature = p.signature.items }

abbrev pub made_signature_view : made_signature.MadeSignature → Signature
made_signature_view m = record {
  protected = string_bytes m.parts.protected;
  protected_members = members_view m.protected_members.entries;
  header = members_view m.parts.header.entries;
  signature = m.parts.signature.items;
  alg = signature_name m.alg;
}

abbrev pub jws_parts_view : jws_parts.JwsParts → JwsParts
jws_parts_view p = record { payload = p.payload.items; signatures = map signature_parts_view p.signatures.items }

abbrev pub signature_members_view : signature_members.SignatureMembers → SignatureParts
signature_members_view m = record { protected = string_bytes m.protected; header = members_view m.header.map.entries; signature = m.signature.items }

abbrev pub decoded_signature_view : decoded.DecodedSignature → DecodedSignature
decoded_signature_view d = record { octets = d.octets.items; parts = signature_members_view d.members }

abbrev pub headed_signature_view : headed.HeadedSignature → HeadedSignature
headed_signature_view h = record { members = members_view h.protected.entries; parts = signature_members_view h.members }

abbrev pub signature_view : signature.Signature → Signature
signature_view s = record {
  protected = string_bytes s.protected;
  protected_members = members_view s.protected_members.entries;
  header = members_view s.header.map.entries;
  signature = s.signature.items;
  alg = string_bytes s.alg.name;
}

abbrev pub jws_view : jws.Jws → SignedObject
jws_view j = record { payload = payload_view j.payload; signatures = map signature_view j.signatures.list.items }

-- its payload is held as its text
abbrev pub holds_text : jws.Jws → Bool
holds_text j = payload_is_text j.payload

-- ---- encrypted objects

abbrev pub recipient_parts_view : parts.RecipientParts → RecipientParts
recipient_parts_view p = record { header = members_view p.header.entries; encrypted_key = p.encrypted_key.items }

abbrev pub recipient_members_view : members.RecipientMembers → RecipientParts
recipient_members_view m = record { header = members_view m.header.map.entries; encrypted_key = m.encrypted_key.items }

abbrev pub recipient_view : recipient.Recipient → Recipient
recipient_view r = record {
  header = members_view r.header.map.entries;
  encrypted_key = r.encrypted_key.items;
  alg = r.named.alg;
  enc = r.enc;
  management = management_view r.named.management;
}

-- with the name of its content encryption
abbrev pub made_recipient_view : List ℕ → made_recipient.MadeRecipient → Recipient
made_recipient_view enc m = record {
  header = members_view m.parts.header.entries;
  encrypted_key = m.parts.encrypted_key.items;
  alg = management_name m.alg;
  enc = enc;
  management = management_view m.management;
}

abbrev pub encoded_recipient_view : encoded_recipient.EncodedRecipient → RecipientParts
encoded_recipient_view t = record { header = members_view t.header.map.entries; encrypted_key = t.encrypted_key.now }

abbrev pub encoded_jwe_view : texts.EncodedJwe → JweParts
encoded_jwe_view t = record {
  protected = t.protected.now;
  unprotected = members_view t.unprotected.map.entries;
  iv = t.iv.now;
  aad = t.aad.now;
  ciphertext = content_text_view t.ciphertext;
  tag = t.tag.now;
  recipients = map encoded_recipient_view t.recipients.items;
}

abbrev pub jwe_parts_view : jwe_parts.JweParts → JweParts
jwe_parts_view p = record {
  protected = string_bytes p.protected;
  unprotected = members_view p.unprotected.entries;
  iv = p.iv.items;
  aad = p.aad.items;
  ciphertext = p.ciphertext.items;
  tag = p.tag.items;
  recipients = map recipient_parts_view p.recipients.items;
}

abbrev pub jwe_members_view : jwe_members.JweMembers → JweParts
jwe_members_view m = record {
  protected = string_bytes m.protected;
  unprotected = members_view m.unprotected.map.entries;
  iv = m.iv.items;
  aad = m.aad.items;
  ciphertext = m.ciphertext.items;
  tag = m.tag.items;
  recipients = map recipient_members_view m.recipients.items;
}

abbrev pub made_jwe_view : made_jwe.MadeEncryptedObject → EncryptedObject
made_jwe_view m = record {
  protected = string_bytes m.protected;
  protected_members = members_view m.protected_members.entries;
  unprotected = members_view m.unprotected.entries;
  iv = m.iv.items;
  aad = m.aad.items;
  ciphertext = m.ciphertext.items;
  tag = m.tag.items;
  recipients = map (made_recipient_view (encryption_name m.enc)) m.recipients.items;
}

abbrev pub jwe_view : jwe.Jwe → EncryptedObject
jwe_view j = record {
  protected = string_bytes j.protected;
  protected_members = members_view j.protected_members.entries;
  unprotected = members_view j.unprotected.map.entries;
  iv = j.iv.items;
  aad = j.aad.items;
  ciphertext = j.ciphertext.items;
  tag = j.tag.items;
  recipients = map recipient_view j.recipients.list.items;
}

-- ---- what is written

abbrev pub written_view : writer.TextWriter → Written
written_view t = record { finished = map string_bytes t.finished.items; text = string_bytes t.text; later = t.later; places = t.places }

-- the object without its ciphertext
abbrev pub without_ciphertext : EncryptedObject → EncryptedObject
without_ciphertext o = record {
  protected = o.protected;
  protected_members = o.protected_members;
  unprotected = o.unprotected;
  iv = o.iv;
  aad = o.aad;
  ciphertext = [];
  tag = o.tag;
  recipients = o.recipients;
}
