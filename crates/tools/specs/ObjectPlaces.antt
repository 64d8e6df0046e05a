-- The places of signed and encrypted objects, in JSON form and in compact form (docs/SPECIFICATION.md "Tools").
use Rattle.std.specs.Prelude.{ℕ, ◌+◌, List, [], ◌∷◌, ◌++◌, codes, drop, position, Option, Some, None, Result, Ok}
use Rattle.std.specs.Result.{result_err}
use Rattle.serde_json.specs.Data.{Data, Members, no_members}
use Rattle.octets.specs.declared.refusal.Refusal.{Refusal}
use Rattle.octets.specs.Base64url.{decoded}
use Rattle.objects.specs.Headers.{header_at}
use Rattle.objects.specs.Texts.{is_dot}
use Rattle.tools.specs.declared.text_kind.TextKind.{TextKind}
use Rattle.tools.specs.declared.text_kind.TextKind.TheVariants as kind
use Rattle.tools.specs.LookedObjects.{before_dot}
use Rattle.tools.specs.ItemPlaces.{ReadRecipient, ReadSignature, Recipient, Signature, listed_places, octets_at, protected_at, protected_of, recipient_places, signature_places}
use Rattle.tools.specs.Places.{Place, SharedHeaders, in_two_headers, shared_by}

-- ---- an encrypted object (RFC 7516 section 7.2.1)

-- its headers, and how its other members are refused
pub record ReadEncrypted : Type 0 where
  pub protected : Result Members Refusal
  pub unprotected : Result Members Refusal
  pub aad : Option Refusal
  pub iv : Option Refusal
  pub ciphertext : Option Refusal
  pub tag : Option Refusal

abbrev pub encrypted_of : Data → ReadEncrypted
encrypted_of value = record {
  protected = protected_at value;
  unprotected = header_at (codes "unprotected") value;
  aad = result_err (octets_at (codes "aad") value);
  iv = result_err (octets_at (codes "iv") value);
  ciphertext = result_err (octets_at (codes "ciphertext") value);
  tag = result_err (octets_at (codes "tag") value);
}

abbrev pub shared_of : ReadEncrypted → Option SharedHeaders
shared_of e = shared_by e.protected e.unprotected

abbrev pub shared_places : Option SharedHeaders → List Place
shared_places None = []
shared_places (Some shared) = in_two_headers shared.protected shared.unprotected ∷ []

unfoldable pub encrypted_members : ReadEncrypted → List Place
encrypted_members e =
    (codes "protected", result_err e.protected) ∷ (codes "unprotected", result_err e.unprotected) ∷ (codes "aad", e.aad) ∷ (codes "iv", e.iv)
    ∷ (codes "ciphertext", e.ciphertext) ∷ (codes "tag", e.tag) ∷ []

unfoldable pub own_places : ReadEncrypted → List Place
own_places e = encrypted_members e ++ shared_places (shared_of e)

-- ---- JSON form (docs/SPECIFICATION.md "Tools")

unfoldable pub payload_place : Option Refusal → List Place
payload_place refusal = (codes "payload", refusal) ∷ []

-- A payload that is another file is absent.
unfoldable pub signed_places : Data → List Place
signed_places value = payload_place (result_err (octets_at (codes "payload") value)) ++ listed_places Signature value

unfoldable pub encrypted_places : Data → List Place
encrypted_places value = own_places (encrypted_of value) ++ listed_places (Recipient (shared_of (encrypted_of value))) value

abbrev pub value_places : TextKind → Data → List Place
value_places kind.Signed value = signed_places value
value_places kind.SignedDetached value = signed_places value
value_places kind.Encrypted value = encrypted_places value
value_places kind.EncryptedDetached value = encrypted_places value
value_places other value = []

-- ---- compact form (RFC 7515 section 7.1, RFC 7516 section 7.1)

-- what is before and after the first dot
abbrev pub first_part : List ℕ → List ℕ
first_part text = before_dot (position is_dot text) text

abbrev pub after_dot : Option ℕ → List ℕ → List ℕ
after_dot None text = []
after_dot (Some dot) text = drop (dot + 1) text

abbrev pub later_parts : List ℕ → List ℕ
later_parts text = after_dot (position is_dot text) text

-- the parts of a signed object: protected, payload, signature
abbrev pub signature_in : List ℕ → List ℕ → ReadSignature
signature_in protected signature = record { protected = protected_of protected; header = Ok no_members; signature = result_err (decoded signature) }

unfoldable pub signed_part_places : List ℕ → List Place
signed_part_places part =
    payload_place (result_err (decoded (first_part (later_parts part)))) ++ signature_places (signature_in (first_part part) (later_parts (later_parts part)))

-- the parts of an encrypted object: protected, encrypted_key, iv, ciphertext, tag
abbrev pub recipient_in : List ℕ → ReadRecipient
recipient_in encrypted_key = record { header = Ok no_members; encrypted_key = result_err (decoded encrypted_key) }

abbrev pub encrypted_in : List ℕ → List ℕ → ReadEncrypted
encrypted_in protected content = record {
  protected = protected_of protected;
  unprotected = Ok no_members;
  aad = None;
  iv = result_err (decoded (first_part content));
  ciphertext = result_err (decoded (first_part (later_parts content)));
  tag = result_err (decoded (later_parts (later_parts content)));
}

abbrev pub encrypted_parts : ReadEncrypted → List ℕ → List Place
encrypted_parts e encrypted_key = own_places e ++ recipient_places (shared_of e) (recipient_in encrypted_key)

unfoldable pub encrypted_part_places : List ℕ → List Place
encrypted_part_places part = encrypted_parts (encrypted_in (first_part part) (later_parts (later_parts part))) (first_part (later_parts part))

abbrev pub part_places : TextKind → List ℕ → List Place
part_places kind.Signed part = signed_part_places part
part_places kind.Encrypted part = encrypted_part_places part
part_places other part = []
