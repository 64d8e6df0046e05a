-- An object has a compact text exactly if its members allow one.
use Rattle.std.proofs.Common.{◌≡◌, ◌↔◌, ℕ, List, [], ◌∷◌, ◌&&◌, Bool, true, false, not, map, length, ◌==◌, Ok, Err, refl, ap, eqb-true}
use Rattle.std.proofs.lemmas.List.{nil_from_length}
use Rattle.octets.specs.declared.refusal.Refusal.TheVariants.{NotCompact}
use Rattle.octets.specs.Outcomes.{◌>>=◌, needs}
use Rattle.objects.specs.CompactForm.{HasText, IsOnlySignature, HasOnlySignature, jws_parts_text, JwsCompactFormIsExact, IsOnlyRecipient, HasOnlyRecipient, jwe_parts_text, JweCompactFormIsExact}
use Rattle.objects.specs.Jwe as jwe
use Rattle.objects.specs.Jws as jws
use Rattle.objects.specs.Texts.{has_members}
use Rattle.objects.proofs.ExactJwe as exact_jwe
use Rattle.objects.proofs.ExactJws as exact_jws
use Rattle.std.proofs.lemmas.Bool.{and_parts}
use Rattle.objects.proofs.Spelling.{no_member}

-- If a test decides P, a text that needs this test is there exactly if P holds, and is refused otherwise.
decided : (fits : Bool) (P : Type 0) (text : List ℕ) → (fits ≡ true → P) → (P → fits ≡ true)
    → (HasText (needs fits NotCompact >>= λ _. Ok text) ↔ P) × (¬ P → (needs fits NotCompact >>= λ _. Ok text) ≡ Err NotCompact)
decided true P text so is = ((λ there. so refl, λ p. (text, refl)), λ none. absurd (none (so refl)))
decided false P text so is = ((λ there. cc there.1, λ p. cc (is p)), λ none. refl)

nothing_in : (xs : List ℕ) → (length xs == 0) ≡ true → xs ≡ []
nothing_in xs h = nil_from_length xs (eqb-true (length xs) 0 h)

-- ---- signed objects

only_signature : (payload : List ℕ) (signatures : List jws.Signature) → jws.is_compact signatures ≡ true
    → HasOnlySignature (record { payload = payload; signatures = signatures })
only_signature payload [] h = cc h
only_signature payload (s ∷ []) h = (s, record { alone = refl; header = no_member s.header h })
only_signature payload (s ∷ (other ∷ rest)) h = cc h

signature_fits : (o : jws.SignedObject) → HasOnlySignature o → jws.is_compact o.signatures ≡ true
signature_fits o only = rw (only.1.alone, only.1.header) refl

jws_decided : (detach : Bool) (o : jws.SignedObject) → (HasText (jws.jws_compact_text detach o) ↔ HasOnlySignature o)
    × (¬ HasOnlySignature o → jws.jws_compact_text detach o ≡ Err NotCompact)
unfolding jws.jws_compact_text
jws_decided detach o =
    decided (jws.is_compact o.signatures) (HasOnlySignature o) (jws.compact_parts detach o.payload (jws.parts_of o).signatures)
    (only_signature o.payload o.signatures) (signature_fits o)

jws_text_is : (detach : Bool) (o : jws.SignedObject) (s : jws.Signature) → IsOnlySignature o s → jws.jws_compact_text detach o ≡ Ok (jws_parts_text detach o s)
jws_text_is detach o s is =
    exact_jws.compact_text_is detach o (jws.signature_parts_of s) (ap (map jws.signature_parts_of) is.alone) is.header

pub jws_compact_form_is_exact : JwsCompactFormIsExact
jws_compact_form_is_exact = record { exists = λ detach o. (jws_decided detach o).0; text = jws_text_is; refused = λ detach o. (jws_decided detach o).1 }

-- ---- encrypted objects

only_recipient : (o : jwe.EncryptedObject) (recipients : List jwe.Recipient) → o.recipients ≡ recipients
    → jwe.is_compact o recipients ≡ true → HasOnlyRecipient o
only_recipient o [] are h = cc h
only_recipient o (r ∷ []) are h =
    let first = and_parts (not (has_members o.unprotected)) (not (has_members r.header) && (length o.aad == 0)) h in
    let second = and_parts (not (has_members r.header)) (length o.aad == 0) first.1 in
    (r, record { alone = are; header = no_member r.header second.0; unprotected = no_member o.unprotected first.0; aad = nothing_in o.aad second.1 })
only_recipient o (r ∷ (other ∷ rest)) are h = cc h

recipient_fits : (o : jwe.EncryptedObject) → HasOnlyRecipient o → jwe.is_compact o o.recipients ≡ true
recipient_fits o only = rw (only.1.alone, only.1.unprotected, only.1.header, only.1.aad) refl

jwe_decided : (detach : Bool) (o : jwe.EncryptedObject) → (HasText (jwe.jwe_compact_text detach o) ↔ HasOnlyRecipient o)
    × (¬ HasOnlyRecipient o → jwe.jwe_compact_text detach o ≡ Err NotCompact)
unfolding jwe.jwe_compact_text
jwe_decided detach o =
    decided (jwe.is_compact o o.recipients) (HasOnlyRecipient o) (jwe.compact_parts detach (jwe.parts_of o))
    (only_recipient o o.recipients refl) (recipient_fits o)

jwe_text_is : (detach : Bool) (o : jwe.EncryptedObject) (r : jwe.Recipient) → IsOnlyRecipient o r
    → jwe.jwe_compact_text detach o ≡ Ok (jwe_parts_text detach o r)
jwe_text_is detach o r is =
    exact_jwe.compact_text_is detach o (jwe.recipient_parts_of r) (ap (map jwe.recipient_parts_of) is.alone) is.unprotected is.header is.aad

pub jwe_compact_form_is_exact : JweCompactFormIsExact
jwe_compact_form_is_exact = record { exists = λ detach o. (jwe_decided detach o).0; text = jwe_text_is; refused = λ detach o. (jwe_decided detach o).1 }
