-- Which objects have a compact text, and which text it is (RFC 7515 section 7.1, RFC 7516 section 7.1).
use Rattle.std.specs.Prelude.{◌≡◌, ◌↔◌, ℕ, Bool, List, [], ◌∷◌, Result, Ok, Err}
use Rattle.serde_json.specs.Data.{no_members}
use Rattle.octets.specs.declared.refusal.Refusal.{Refusal}
use Rattle.octets.specs.declared.refusal.Refusal.TheVariants.{NotCompact}
use Rattle.octets.specs.Base64url.{base64url}
use Rattle.objects.specs.Jwe.{Recipient, EncryptedObject, jwe_compact_text}
use Rattle.objects.specs.Jws.{Signature, SignedObject, jws_compact_text}
use Rattle.objects.specs.Texts.{between_dots, kept}

-- There is a compact text (RFC 7515 section 7.1, RFC 7516 section 7.1).
abbrev pub HasText : Result (List ℕ) Refusal → Type 0
HasText compact = (text : List ℕ) × (compact ≡ Ok text)

-- ---- signed objects (RFC 7515 section 7.1)

-- s is the only signature of the object, and has no unprotected header.
pub record IsOnlySignature (o : SignedObject) (s : Signature) : Type 0 where
  pub alone : o.signatures ≡ s ∷ []
  pub header : s.header ≡ no_members

-- The object has one signature and no unprotected header.
abbrev pub HasOnlySignature : SignedObject → Type 0
HasOnlySignature o = (s : Signature) × IsOnlySignature o s

-- the protected header, the payload and the signature, joined by dots
abbrev pub jws_parts_text : Bool → SignedObject → Signature → List ℕ
jws_parts_text detach o s = between_dots (s.protected ∷ kept detach (base64url o.payload) ∷ base64url s.signature ∷ [])

-- A signed object has a compact text exactly if it has one signature and no unprotected header. The text is its three parts, joined by
-- dots. Every other object is refused with NotCompact.
pub record JwsCompactFormIsExact : Type 0 where
  pub exists : (detach : Bool) (o : SignedObject) → HasText (jws_compact_text detach o) ↔ HasOnlySignature o
  pub text : (detach : Bool) (o : SignedObject) (s : Signature) → IsOnlySignature o s → jws_compact_text detach o ≡ Ok (jws_parts_text detach o s)
  pub refused : (detach : Bool) (o : SignedObject) → ¬ HasOnlySignature o → jws_compact_text detach o ≡ Err NotCompact

-- ---- encrypted objects (RFC 7516 section 7.1)

-- r is the only recipient of the object. Neither has an unprotected header, and the object has no additional data.
pub record IsOnlyRecipient (o : EncryptedObject) (r : Recipient) : Type 0 where
  pub alone : o.recipients ≡ r ∷ []
  pub header : r.header ≡ no_members
  pub unprotected : o.unprotected ≡ no_members
  pub aad : o.aad ≡ []

-- The object has one recipient, only a protected header, and no additional data.
abbrev pub HasOnlyRecipient : EncryptedObject → Type 0
HasOnlyRecipient o = (r : Recipient) × IsOnlyRecipient o r

-- the protected header, the encrypted key, the initialization vector, the ciphertext and the tag, joined by dots
abbrev pub jwe_parts_text : Bool → EncryptedObject → Recipient → List ℕ
jwe_parts_text detach o r =
    between_dots (o.protected ∷ base64url r.encrypted_key ∷ base64url o.iv ∷ kept detach (base64url o.ciphertext) ∷ base64url o.tag ∷ [])

-- An encrypted object has a compact text exactly if it has one recipient, only a protected header, and no additional data. The text is its
-- five parts, joined by dots. Every other object is refused with NotCompact.
pub record JweCompactFormIsExact : Type 0 where
  pub exists : (detach : Bool) (o : EncryptedObject) → HasText (jwe_compact_text detach o) ↔ HasOnlyRecipient o
  pub text : (detach : Bool) (o : EncryptedObject) (r : Recipient) → IsOnlyRecipient o r → jwe_compact_text detach o ≡ Ok (jwe_parts_text detach o r)
  pub refused : (detach : Bool) (o : EncryptedObject) → ¬ HasOnlyRecipient o → jwe_compact_text detach o ≡ Err NotCompact
