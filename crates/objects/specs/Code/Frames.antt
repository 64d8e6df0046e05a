-- The texts around a content, and around the signatures or the tag after it, so that these can be written as they come.
use Rattle.std.specs.Prelude.{◌≡◌, ℕ, ◌+◌, Bool, true, false, List, [], ◌∷◌, ◌++◌, length, map, nat_le, if◌then◌else◌, Result, Ok}
use Rattle.std.specs.List.{AllByRecursion}
use Rattle.octets.specs.declared.refusal.Refusal.{Refusal}
use Rattle.octets.specs.Base64url.{base64url}
use Rattle.octets.specs.Octets.{IsOctets}
use Rattle.octets.specs.Outcomes.{◌>>=◌}
use Rattle.objects.specs.Jws.{Signature, SignedObject, jws_text}
use Rattle.objects.specs.Jwe.{EncryptedObject, jwe_text}
use Rattle.objects.specs.Code.JweWriting.{jwe_written}
use Rattle.objects.specs.Code.JwsWriting.{jws_written}
use Rattle.objects.specs.Code.Writing.{all_texts}

-- the texts, with values in the places between them
abbrev pub filled : List (List ℕ) → List (List ℕ) → List ℕ
filled [] values = []
filled (text ∷ rest) [] = text
filled (text ∷ rest) (value ∷ values) = text ++ (value ++ filled rest values)

-- the base64url texts of a content and of what follows it; a detached content has no place
abbrev pub in_places : Bool → List ℕ → List (List ℕ) → List (List ℕ)
in_places true content others = map base64url others
in_places false content others = base64url content ∷ map base64url others

-- the first of the texts, which is before all places, or nothing if there is no frame (docs/SPECIFICATION.md "Commands", what is left after
-- a refusal)
abbrev pub first_text : Result (List (List ℕ)) Refusal → List ℕ
first_text (Ok (text ∷ rest)) = text
first_text r = []

-- ---- signed objects (RFC 7515 section 7)

-- the texts around the payload and the signatures, in the form that is asked for
abbrev pub jws_frame : Bool → Bool → SignedObject → Result (List (List ℕ)) Refusal
jws_frame compact detach o = do
  w ← jws_written true compact detach o
  Ok (all_texts w)

-- the signatures with these octets in place of their own, in order
abbrev pub with_octets : List Signature → List (List ℕ) → List Signature
with_octets [] octets = []
with_octets (s ∷ rest) [] = s ∷ rest
with_octets (s ∷ rest) (octets ∷ more) = record {
  protected = s.protected;
  protected_members = s.protected_members;
  header = s.header;
  signature = octets;
  alg = s.alg;
} ∷ with_octets rest more

abbrev pub signed_with : SignedObject → List ℕ → List (List ℕ) → SignedObject
signed_with o payload signatures = record { payload = payload; signatures = with_octets o.signatures signatures }

-- With any payload, and as many signatures as the object has, the texts are the text of the object with these in place of its own.
pub record IsJwsFrame (compact detach : Bool) (o : SignedObject) (texts : List (List ℕ)) : Type 0 where
  pub places : length texts ≡ (if detach then 1 else 2) + length o.signatures
  pub filled : (payload : List ℕ) (signatures : List (List ℕ)) → IsOctets payload → AllByRecursion IsOctets signatures → length signatures ≡ length o.signatures
      → jws_text compact detach (signed_with o payload signatures) ≡ Ok (filled texts (in_places detach payload signatures))

-- ---- encrypted objects (RFC 7516 section 7)

-- the texts around the ciphertext and the tag, in the form that is asked for
abbrev pub jwe_frame : Bool → Bool → EncryptedObject → Result (List (List ℕ)) Refusal
jwe_frame compact detach o = do
  w ← jwe_written true compact detach o
  Ok (all_texts w)

-- the object with this ciphertext and this tag in place of its own
abbrev pub sealed_with : EncryptedObject → List ℕ → List ℕ → EncryptedObject
sealed_with o ciphertext tag = record {
  protected = o.protected;
  protected_members = o.protected_members;
  unprotected = o.unprotected;
  iv = o.iv;
  aad = o.aad;
  ciphertext = ciphertext;
  tag = tag;
  recipients = o.recipients;
}

-- With any ciphertext, and any tag that is not empty, the texts are the text of the object with these in place of its own.
pub record IsJweFrame (compact detach : Bool) (o : EncryptedObject) (texts : List (List ℕ)) : Type 0 where
  pub places : length texts ≡ (if detach then 2 else 3)
  pub filled : (ciphertext tag : List ℕ) → IsOctets ciphertext → IsOctets tag → nat_le 1 (length tag) ≡ true
      → jwe_text compact detach (sealed_with o ciphertext tag) ≡ Ok (filled texts (in_places detach ciphertext (tag ∷ [])))
