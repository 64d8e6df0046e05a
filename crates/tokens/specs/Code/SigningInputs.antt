-- Signing inputs that are fed in pieces (RFC 7515 section 5.1).
use Rattle.std.specs.Prelude.{◌≡◌, ℕ, Bool, List, [], ◌∷◌, ◌++◌, length, map, codes, ⊤, Result, Ok}
use Rattle.std.proofs.Common.{refl, ap, ◌∙◌, arith}
use Rattle.std.proofs.lemmas.List.{length-map}
use Rattle.prf.specs.HashFunction.{HashFunction}
use Rattle.prf.specs.Sha2.{Sha256, Sha384, Sha512}
use Rattle.prf.specs.declared.hmac.Hmac.{Hmac}
use Rattle.tokens.specs.declared.signing_input.HmacInput.{HmacInput}
use Rattle.tokens.specs.declared.signing_input.HmacInput.TheVariants.{BySha256, BySha384, BySha512}
use Rattle.octets.specs.declared.refusal.Refusal.{Refusal}
use Rattle.keys.specs.declared.algorithm.SignatureAlg.{SignatureAlg}
use Rattle.octets.specs.Base64url.{base64url, whole_groups}
use Rattle.octets.specs.Code.Streams.{part_group}
use Rattle.octets.specs.Plan.{OutputTexts, Plan}
use Rattle.prf.specs.Hmac.{hmac}
use Rattle.serde_json.specs.Data.{Members}
use Rattle.keys.specs.Limits.{Limits, limits}
use Rattle.objects.specs.Code.Frames.{IsJwsFrame, jws_frame}
use Rattle.objects.specs.Jws.{Signature, SignatureParts, SignedObject, built}
use Rattle.objects.specs.Code.Making.{made_object}
use Rattle.keys.specs.Algorithms.{signature_hash, signature_name}
use Rattle.tokens.specs.Signing.{Signer, Signing, protected_by, plan_by}

-- a statement on the HMAC of this variant
abbrev pub on_hmac_input : HmacInput → (Hmac Sha256 → Type 0) → (Hmac Sha384 → Type 0) → (Hmac Sha512 → Type 0) → Type 0
on_hmac_input (BySha256 mac) a b c = a mac
on_hmac_input (BySha384 mac) a b c = b mac
on_hmac_input (BySha512 mac) a b c = c mac

-- what a signing input starts with: the algorithm and the key of the HMAC, and the text of the protected header
pub record InputStart : Type 0 where
  pub alg : SignatureAlg
  pub key : List ℕ
  pub protected : List ℕ

-- Each input was started with its start and a dot, and was then fed this text.
abbrev pub HoldEach : {S : Type 0} → (S → HashFunction → List ℕ → List ℕ → Type 0) → List S → List InputStart → List ℕ → Type 0
HoldEach has_taken [] [] text = ⊤
HoldEach has_taken [] (s ∷ starts) text = ⊥
HoldEach has_taken (x ∷ inputs) [] text = ⊥
HoldEach has_taken (x ∷ inputs) (s ∷ starts) text =
    has_taken x (signature_hash s.alg) s.key ((s.protected ++ codes ".") ++ text) × HoldEach has_taken inputs starts text

-- They were fed the text of the whole groups of the payload so far, and the octets after these wait.
abbrev pub HaveTaken : {S : Type 0} → (S → HashFunction → List ℕ → List ℕ → Type 0) → List S → List ℕ → List InputStart → List ℕ → Type 0
HaveTaken has_taken inputs waiting starts p = HoldEach has_taken inputs starts (base64url (whole_groups p)) × (waiting ≡ part_group p)

-- the text of the signature over the payload's text
abbrev pub signature_text : List ℕ → InputStart → List ℕ
signature_text text s = base64url (hmac (signature_hash s.alg) s.key ((s.protected ++ codes ".") ++ text))

-- The values are the texts of the signatures over the text that the inputs were fed.
pub record GiveSignatures {S : Type 0} (has_taken : S → HashFunction → List ℕ → List ℕ → Type 0) (inputs : List S) (values : List (List ℕ)) : Type 0 where
  pub starts : List InputStart
  pub text : List ℕ
  pub hold : HoldEach has_taken inputs starts text
  pub are : values ≡ map (signature_text text) starts

-- there are as many starts as inputs
hold_count : {S : Type 0} (has_taken : S → HashFunction → List ℕ → List ℕ → Type 0) (inputs : List S) (starts : List InputStart) (text : List ℕ)
    → HoldEach has_taken inputs starts text → length starts ≡ length inputs
hold_count has_taken [] [] text h = refl
hold_count has_taken [] (s ∷ starts) text h = absurd h
hold_count has_taken (x ∷ inputs) [] text h = absurd h
hold_count has_taken (x ∷ inputs) (s ∷ starts) text h = omega (arith, hold_count has_taken inputs starts text h.1)

pub count_signatures : {S : Type 0} {has_taken : S → HashFunction → List ℕ → List ℕ → Type 0} {inputs : List S} {values : List (List ℕ)}
    → GiveSignatures has_taken inputs values → length values ≡ length inputs
count_signatures {has_taken = has_taken} {inputs = inputs} given =
    ap length given.are ∙ length-map given.starts (signature_text given.text) ∙ hold_count has_taken inputs given.starts given.text given.hold

-- what the signing input of a signer starts with
abbrev pub start_of : Signer → InputStart
start_of s = record { alg = s.alg; key = s.key.octets; protected = protected_by s }

-- ---- the object before there is a payload (RFC 7515 section 5.1, steps 3 and 4)

-- a signature without its octets
abbrev pub unsigned_part_by : Members → Signer → SignatureParts
unsigned_part_by header s = record { protected = protected_by s; header = header; signature = [] }

unfoldable pub unsigned_by : Limits → Signing → Result SignedObject Refusal
unsigned_by limits s = built limits (record { payload = []; signatures = map (unsigned_part_by s.header) s.signers })

-- a signature without its octets, with the members of its protected header and the name of its algorithm
abbrev pub unsigned_signature : Members → Signer → Signature
unsigned_signature header s = record {
  protected = protected_by s;
  protected_members = s.protected;
  header = header;
  signature = [];
  alg = signature_name s.alg;
}

abbrev pub unsigned_object : Signing → SignedObject
unsigned_object s = made_object [] (map (unsigned_signature s.header) s.signers)

abbrev pub unsigned_protected : List Signature → List (List ℕ)
unsigned_protected signatures = map (λ s. s.protected) signatures

-- The texts are those of the frame of the plan's object, and the inputs were started for its signers.
pub record IsFramed {S : Type 0} (has_taken : S → HashFunction → List ℕ → List ℕ → Type 0) (compact detach : Bool) (plan : Result (Plan OutputTexts) Refusal)
    (inputs : List S) (texts : List (List ℕ)) : Type 0 where
  pub signing : Signing
  pub object : SignedObject
  pub is : plan ≡ Ok (plan_by limits compact detach signing)
  pub made : unsigned_by limits signing ≡ Ok object
  pub texts_are : jws_frame compact detach object ≡ Ok texts
  pub frame : IsJwsFrame compact detach object texts
  pub started : HoldEach has_taken inputs (map start_of signing.signers) []
