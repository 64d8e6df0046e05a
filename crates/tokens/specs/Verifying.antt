-- Verifying with the keys of a set (RFC 7515 section 5.2).
use Rattle.std.specs.Prelude.{◌≡◌, ℕ, ◌≤◌, max, nat_le, ◌&&◌, Bool, true, false, List, [], ◌∷◌, ◌++◌, length, is_some, position, if◌then◌else◌, Option, Some, None, Result, Ok}
use Rattle.std.specs.List.{count_by, list_any, list_all}
use Rattle.std.specs.Option.{ok_or}
use Rattle.std.specs.Str.{bytes_eq}
use Rattle.octets.specs.declared.refusal.Refusal.{Refusal}
use Rattle.octets.specs.declared.refusal.Refusal.TheVariants.{Unsupported, KeyDoesNotFit, NotOpened}
use Rattle.octets.specs.Outcomes.{◌>>=◌, needs}
use Rattle.octets.specs.Octets.{IsOctets}
use Rattle.octets.specs.Plan.{OutputTexts, planned}
use Rattle.keys.specs.declared.algorithm.Algorithm.TheVariants.{Signature as SignedWith}
use Rattle.keys.specs.declared.algorithm.SignatureAlg.{SignatureAlg}
use Rattle.keys.specs.declared.operation.Operation.TheVariants.{Verify}
use Rattle.keys.specs.Algorithms.{signature_alg_of}
use Rattle.keys.specs.Limits.{limits}
use Rattle.keys.specs.Keys.{OctetKey, allows, fits}
use Rattle.objects.specs.Jws.{Signature, SignedObject, jws_of}
use Rattle.objects.specs.Texts.{handed_in}
use Rattle.tokens.specs.Signatures.{signature_of}
use Rattle.tokens.specs.Signing.{sig_plan}

-- ---- the pairs of a signature and a key (RFC 7515 section 5.2, step 8, and docs/SPECIFICATION.md "Verifying" 3)

-- the key may verify by the algorithm, and fits
abbrev pub is_candidate : SignatureAlg → OctetKey → Bool
is_candidate alg key = allows key Verify && fits key (SignedWith alg)

-- the signature is that of the received text of the protected header and of the payload
abbrev pub is_signed : SignatureAlg → List ℕ → Signature → OctetKey → Bool
is_signed alg payload s key = bytes_eq s.signature (signature_of alg key.octets s.protected payload)

-- the algorithm of a candidate pair: that of the signature, if it is supported and the key may verify by it and fits
abbrev pub candidate_by : Option SignatureAlg → OctetKey → Option SignatureAlg
candidate_by None key = None
candidate_by (Some alg) key = if is_candidate alg key then Some alg else None

abbrev pub candidate_alg : Signature → OctetKey → Option SignatureAlg
candidate_alg s key = candidate_by (signature_alg_of s.alg) key

-- the pair is a candidate
abbrev pub may_verify : Signature → OctetKey → Bool
may_verify s key = is_some (candidate_alg s key)

-- the pair is a candidate, and the key signed the object
abbrev pub verifies_by : Option SignatureAlg → List ℕ → Signature → OctetKey → Bool
verifies_by None payload s key = false
verifies_by (Some alg) payload s key = is_signed alg payload s key

abbrev pub verifies : List ℕ → Signature → OctetKey → Bool
verifies payload s key = verifies_by (candidate_alg s key) payload s key

-- ---- the object (RFC 7515 section 5.2, steps 9 and 10, and docs/SPECIFICATION.md "Verifying" 2 and 3)

-- each key made a signature, if that is asked for, or else some key made one
abbrev pub are_verified : Bool → List OctetKey → SignedObject → Bool
are_verified true keys o = list_all (λ key. list_any (λ s. verifies o.payload s key) o.signatures) keys
are_verified false keys o = list_any (λ s. list_any (verifies o.payload s) keys) o.signatures

-- the payload of an object that verifies, or the first refusal
unfoldable pub verified_payload : Bool → List OctetKey → SignedObject → Result (List ℕ) Refusal
verified_payload all keys o = do
  supported ← needs (list_any (λ s. is_some (signature_alg_of s.alg)) o.signatures) Unsupported
  candidates ← needs (list_any (λ s. list_any (may_verify s) keys) o.signatures) KeyDoesNotFit
  verified ← needs (are_verified all keys o) NotOpened
  Ok o.payload

-- ---- so many signers (docs/SPECIFICATION.md "Tools")

-- the key made one of the signatures
abbrev pub has_signed : SignedObject → OctetKey → Bool
has_signed o key = list_any (λ s. verifies o.payload s key) o.signatures

-- how many of the keys made a signature
abbrev pub signers_count : List OctetKey → SignedObject → ℕ
signers_count keys o = count_by (has_signed o) keys

-- at least so many of the keys made a signature, and at least one
abbrev pub have_signed : ℕ → List OctetKey → SignedObject → Bool
have_signed least keys o = nat_le (max least 1) (signers_count keys o)

-- the payload of an object that has at least so many signers among the keys, or the first refusal
unfoldable pub verified_by_least : ℕ → List OctetKey → SignedObject → Result (List ℕ) Refusal
verified_by_least least keys o = do
  supported ← needs (list_any (λ s. is_some (signature_alg_of s.alg)) o.signatures) Unsupported
  candidates ← needs (list_any (λ s. list_any (may_verify s) keys) o.signatures) KeyDoesNotFit
  verified ← needs (have_signed least keys o) NotOpened
  Ok o.payload

-- what is written of it: the payload, if it is asked for
unfoldable pub verifying_by_least : ℕ → Bool → List OctetKey → SignedObject → Result (List ℕ) Refusal
verifying_by_least least wanted keys o = do
  payload ← verified_by_least least keys o
  Ok (if wanted then payload else [])

-- how many signers are asked for: each of the keys, or some
abbrev pub least_of : Bool → List OctetKey → ℕ
least_of true keys = length keys
least_of false keys = 1

-- Each key signed exactly if as many keys did as there are, and some key exactly if one did. The refusals are the same.
abbrev pub LeastIsAll : Type 0
LeastIsAll = (all : Bool) (keys : List OctetKey) (o : SignedObject) → verified_payload all keys o ≡ verified_by_least (least_of all keys) keys o

-- What is accepted has so many signers. So they are at most as many as the keys, and at least one.
abbrev pub LeastHaveSigned : Type 0
LeastHaveSigned = (least : ℕ) (keys : List OctetKey) (o : SignedObject) (payload : List ℕ) → verified_by_least least keys o ≡ Ok payload
    → (least ≤ signers_count keys o) × (1 ≤ signers_count keys o) × (signers_count keys o ≤ length keys)

-- If more signers are asked for, what is accepted is accepted for fewer too.
abbrev pub FewerAreAccepted : Type 0
FewerAreAccepted = (fewer more : ℕ) (keys : List OctetKey) (o : SignedObject) (payload : List ℕ) → fewer ≤ more
    → verified_by_least more keys o ≡ Ok payload → verified_by_least fewer keys o ≡ Ok payload

-- ---- the first key that signed (docs/SPECIFICATION.md "Verifying" 3 and "Calls for C" 9)

-- the place, from 0, of the first key that made a signature
abbrev pub first_signer : List OctetKey → SignedObject → Option ℕ
first_signer keys o = position (λ key. list_any (λ s. verifies o.payload s key) o.signatures) keys

-- the place of the first key that verifies the object, or the first refusal
unfoldable pub verified_by : List OctetKey → SignedObject → Result ℕ Refusal
verified_by keys o = do
  supported ← needs (list_any (λ s. is_some (signature_alg_of s.alg)) o.signatures) Unsupported
  candidates ← needs (list_any (λ s. list_any (may_verify s) keys) o.signatures) KeyDoesNotFit
  ok_or (first_signer keys o) NotOpened

-- Some key verifies the object exactly if there is a first one, and the refusals are the same.
abbrev pub FirstVerifies : Type 0
FirstVerifies = (keys : List OctetKey) (o : SignedObject) → verified_payload false keys o ≡ (verified_by keys o >>= λ place. Ok o.payload)

-- what is written: the payload, if it is asked for
unfoldable pub verifying_by : Bool → Bool → List OctetKey → SignedObject → Result (List ℕ) Refusal
verifying_by all wanted keys o = do
  payload ← verified_payload all keys o
  Ok (if wanted then payload else [])

-- ---- what is signed is verified (docs/SPECIFICATION.md "Signing" and "Verifying" 3)

-- A text that keys sign is an object. Each of the keys alone verifies it and returns the payload, if the key may verify.
abbrev pub SignedVerifies : Type 0
SignedVerifies = (compact detach : Bool) (keys : List OctetKey) (template payload : List ℕ) (texts : OutputTexts) → IsOctets payload
    → planned (sig_plan limits compact detach keys template) payload ≡ Ok texts
    → (o : SignedObject) × ((jws_of limits (handed_in detach texts.content) texts.text ≡ Ok o)
    × ((all : Bool) (before after : List OctetKey) (key : OctetKey) → keys ≡ before ++ key ∷ after → allows key Verify ≡ true
    → verifying_by all true (key ∷ []) o ≡ Ok payload))
