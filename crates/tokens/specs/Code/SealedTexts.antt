-- What is written of a content that is sealed as it is read: its ciphertext, and the tag at its end.
use Rattle.std.specs.Prelude.{◌≡◌, ℕ, Bool, false, List, [], ◌∷◌, length, map, if◌then◌else◌, Option, Some, None, Result, Ok}
use Rattle.std.proofs.Common.{zero, suc, refl, ap, ◌∙◌, arith}
use Rattle.std.proofs.lemmas.List.{nil_from_length}
use Rattle.octets.specs.declared.refusal.Refusal.{Refusal}
use Rattle.octets.specs.Base64url.{base64url}
use Rattle.octets.specs.Code.Streams.{part_group}
use Rattle.octets.specs.Octets.{IsOctets}
use Rattle.octets.specs.Outcomes.{◌>>=◌}
use Rattle.octets.specs.Plan.{OutputTexts, Plan}
use Rattle.ciphers.specs.Algorithms.{management_name, encryption_name}
use Rattle.ciphers.specs.Sealing.{Sealed, Sealing, IsTooLong}
use Rattle.ciphers.specs.Code.Views.{KeepsPace}
use Rattle.keys.specs.Limits.{Limits, limits}
use Rattle.objects.specs.Code.Frames.{filled, in_places, first_text, jwe_frame}
use Rattle.objects.specs.Jwe.{Recipient, EncryptedObject, built}
use Rattle.objects.specs.Texts.{handed_out}
use Rattle.tokens.specs.Choosing.{Given, EncryptionPlan, is_alone}
use Rattle.tokens.specs.Delivering.{Delivery}
use Rattle.tokens.specs.Encrypting.{iv_by, deliveries_by, protected_header, per_recipient_header, sealing_by, sealed_by, parts_by, text_before, within_longest, plan_by}
use Rattle.tokens.specs.Template.{header_text}

-- ---- the ciphertext

-- the plan for each plaintext, by a plan for each ciphertext
abbrev pub sealed_plan : Plan (List ℕ) → Sealing → Plan (List ℕ)
sealed_plan plan s = record {
  whole = λ plaintext. sealed_by s plaintext >>= λ sealed. plan.whole sealed.ciphertext;
  fixed = λ front. plan.fixed (s.fixed (within_longest s.longest front));
}

-- an empty plaintext fixes no text
within_nothing : (longest : Option ℕ) → within_longest longest [] ≡ []
within_nothing None = refl
within_nothing (Some zero) = refl
within_nothing (Some (suc most)) = refl

pub nothing_starts : (plan : Plan (List ℕ)) (s : Sealing) → KeepsPace s [] → plan.fixed [] ≡ [] → (sealed_plan plan s).fixed [] ≡ []
nothing_starts plan s pace none =
    ap (λ front. plan.fixed (s.fixed front)) (within_nothing s.longest) ∙ ap plan.fixed (nil_from_length (s.fixed []) (omega (arith, pace.within))) ∙ none

-- The sealing was fed p, which is not too long.
pub record IsFed {X : Type 0} (is_sealing : X → Sealing → List ℕ → Type 0) (x : X) (s : Sealing) (p : List ℕ) : Type 0 where
  pub holds : is_sealing x s p
  pub short : IsTooLong s p → ⊥

-- the same, and the octets after the whole groups of the fixed ciphertext wait
abbrev pub IsSealingText : {X : Type 0} → (X → Sealing → List ℕ → Type 0) → X → List ℕ → Sealing → List ℕ → Type 0
IsSealingText is_sealing x waiting s p = IsFed is_sealing x s p × (waiting ≡ part_group (s.fixed p))

-- the count of one value is 1
pub one_value : {values : List (List ℕ)} {value : List ℕ} → values ≡ value ∷ [] → length values ≡ 1
one_value is = ap length is

-- ---- the object before there is a ciphertext

abbrev pub unsealed : Sealed
unsealed = record { ciphertext = []; tag = [] }

-- the recipient of a delivery, by whether it is the only one, with the name of its content encryption
abbrev pub made_recipient : Given → Bool → List ℕ → Delivery → Recipient
made_recipient given alone enc d = record {
  header = per_recipient_header given alone d;
  encrypted_key = d.encrypted_key;
  alg = management_name d.alg;
  enc = enc;
  management = d.management;
}

-- the object of deliveries and an initialization vector
abbrev pub unsealed_object : EncryptionPlan → List Delivery → List ℕ → EncryptedObject
unsealed_object e deliveries iv =
    let alone : Bool = is_alone e.recipient_keys in
    let header = protected_header e.given alone deliveries e.protected in
    record {
      protected = base64url (header_text header);
      protected_members = header;
      unprotected = e.unprotected;
      iv = iv;
      aad = e.aad;
      ciphertext = [];
      tag = [];
      recipients = map (made_recipient e.given alone (encryption_name e.encryption)) deliveries;
    }

-- the object of what was drawn
abbrev pub unsealed_by : EncryptionPlan → List ℕ → EncryptedObject
unsealed_by e random = unsealed_object e (deliveries_by e random) (iv_by e random)

-- the texts around its ciphertext and its tag
abbrev pub frame_by : Limits → Bool → Bool → EncryptionPlan → List ℕ → Result (List (List ℕ)) Refusal
frame_by limits compact detach e random = built limits (parts_by e random unsealed) >>= jwe_frame compact detach

-- ---- the object

-- The sealing of the plan's encryption was started, and the texts are those of its frame. With the ciphertext and the tag of any plaintext
-- they are what is written of its object.
pub record IsUnsealed {S : Type 0} (is_sealing : S → Sealing → List ℕ → Type 0) (compact detach : Bool) (plan : Result (Plan OutputTexts) Refusal) (sealer : S)
    (texts : List (List ℕ)) : Type 0 where
  pub encryption : EncryptionPlan
  pub random : List ℕ
  pub is : plan ≡ Ok (plan_by limits compact detach encryption random)
  pub started : is_sealing sealer (sealing_by encryption random) []
  pub places : length texts ≡ (if detach then 2 else 3)
  pub before : detach ≡ false → text_before limits compact encryption random ≡ first_text (Ok texts)
  pub whole : (plaintext : List ℕ) (sealed : Sealed) → IsOctets plaintext → sealed_by (sealing_by encryption random) plaintext ≡ Ok sealed
      → (plan_by limits compact detach encryption random).whole plaintext
      ≡ Ok (record { text = filled texts (in_places detach sealed.ciphertext (sealed.tag ∷ [])); content = handed_out detach sealed.ciphertext })
