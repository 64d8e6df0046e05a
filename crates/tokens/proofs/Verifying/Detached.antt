-- Signing inputs of the candidate pairs of a key and a head, which are consumed from the front.
use Rattle.std.proofs.Common.{◌≡◌, ℕ, List, [], ◌∷◌, ◌++◌, codes, Bool, true, false, ◌||◌, Option, Some, None, is_none, Result, Ok, Err, refl, sym, ap, subst, ◌∙◌, append_assoc}
use Rattle.std.specs.List.{list_any}
use Rattle.prf.specs.HashFunction.{HashFunction}
use Rattle.prf.specs.Hmac.{hmac}
use Rattle.octets.specs.declared.refusal.Refusal.{Refusal}
use Rattle.octets.specs.Outcomes.{◌>>=◌, AgreesUnlessExternal}
use Rattle.octets.specs.Code.Results.{Agrees}
use Rattle.octets.specs.Base64url.{base64url}
use Rattle.keys.specs.declared.algorithm.SignatureAlg.{SignatureAlg}
use Rattle.keys.specs.Keys.{OctetKey}
use Rattle.objects.specs.Jws.{Signature, SignedObject}
use Rattle.keys.specs.Algorithms.{signature_hash}
use Rattle.tokens.specs.Signatures.{signature_of}
use Rattle.tokens.specs.Code.SigningInputs.{InputStart, HoldEach}
use Rattle.tokens.specs.Verifying.{verifies, verified_by_least, verifying_by_least}
use Rattle.tokens.specs.Code.Heads.{is_one_of}
use Rattle.tokens.specs.Code.VerifyingInputs.{starts_by}

module _ {S : Type 0} (has_taken : S → HashFunction → List ℕ → List ℕ → Type 0) where
  -- ---- inputs that are consumed from the front

  -- A pair that is not a candidate has no input.
  pub none_for_pair : (a : Option SignatureAlg) (s : Signature) (key : OctetKey) (inputs : List S) (later : List InputStart) (text : List ℕ) → is_none a ≡ true
      → HoldEach has_taken inputs (starts_by a s key ++ later) text → HoldEach has_taken inputs later text
  none_for_pair None s key inputs later text none h = h
  none_for_pair (Some alg) s key inputs later text none h = cc none

  -- the input of a candidate pair
  pub record First (a : Option SignatureAlg) (s : Signature) (key : OctetKey) (x : S) (rest : List S) (later : List InputStart) (text : List ℕ) : Type 0 where
    pub alg : SignatureAlg
    pub is : a ≡ Some alg
    pub here : has_taken x (signature_hash alg) key.octets ((s.protected ++ codes ".") ++ text)
    pub others : HoldEach has_taken rest later text

  pub first_for_pair : (a : Option SignatureAlg) (s : Signature) (key : OctetKey) (inputs : List S) (x : S) (rest : List S) (later : List InputStart)
      (text : List ℕ) → is_none a ≡ false → inputs ≡ x ∷ rest
      → HoldEach has_taken inputs (starts_by a s key ++ later) text → First a s key x rest later text
  first_for_pair None s key inputs x rest later text some is h = cc some
  first_for_pair (Some alg) s key inputs x rest later text some is h =
      let all = subst (λ i. HoldEach has_taken i (starts_by (Some alg) s key ++ later) text) is h in
      record { alg = alg; is = refl; here = all.0; others = all.1 }

  -- A candidate pair has an input.
  pub first_is_there : (a : Option SignatureAlg) (s : Signature) (key : OctetKey) (inputs : List S) (later : List InputStart) (text : List ℕ)
      → is_none a ≡ false → inputs ≡ []
      → HoldEach has_taken inputs (starts_by a s key ++ later) text → ⊥
  first_is_there None s key inputs later text some is h = cc some
  first_is_there (Some alg) s key inputs later text some is h = subst (λ i. HoldEach has_taken i (starts_by (Some alg) s key ++ later) text) is h

-- The HMAC of the input of a head is that of the key.
pub made_by_input : (alg : SignatureAlg) (payload : List ℕ) (signatures : List Signature) (h : Signature) (key : OctetKey) (mac : List ℕ)
    → mac ≡ hmac (signature_hash alg) key.octets ((h.protected ++ codes ".") ++ base64url payload)
    → is_one_of mac h signatures ≡ is_one_of (signature_of alg key.octets h.protected payload) h signatures
unfolding signature_of
made_by_input alg payload signatures h key mac made =
    ap (λ m. is_one_of m h signatures) (made ∙ ap (hmac (signature_hash alg) key.octets) (append_assoc h.protected (codes ".") (base64url payload)))

-- ---- over all keys and all signatures of each key

module _ (payload : List ℕ) where
  none_by_none : (keys : List OctetKey) → list_any (λ key. list_any (λ s. verifies payload s key) []) keys ≡ false
  none_by_none [] = refl
  none_by_none (key ∷ keys) = none_by_none keys

  swap_or : (a b c d : Bool) → ((a || b) || (c || d)) ≡ ((a || c) || (b || d))
  swap_or true b c d = refl
  swap_or false true true d = refl
  swap_or false true false d = refl
  swap_or false false true d = refl
  swap_or false false false d = refl

  -- Some key made the first signature or one of the others exactly if some key made one of them all.
  first_or_other : (s : Signature) (signatures : List Signature) (keys : List OctetKey)
      → (list_any (verifies payload s) keys || list_any (λ key. list_any (λ s. verifies payload s key) signatures) keys)
      ≡ list_any (λ key. list_any (λ s. verifies payload s key) (s ∷ signatures)) keys
  first_or_other s signatures [] = refl
  first_or_other s signatures (key ∷ keys) =
      swap_or (verifies payload s key) (list_any (verifies payload s) keys) (list_any (λ s. verifies payload s key) signatures)
      (list_any (λ key. list_any (λ s. verifies payload s key) signatures) keys)
      ∙ ap (λ rest. (verifies payload s key || list_any (λ s. verifies payload s key) signatures) || rest) (first_or_other s signatures keys)

  -- It does not matter whether signatures or keys come first: some key made some signature.
  pub by_signature : (signatures : List Signature) (keys : List OctetKey)
      → list_any (λ s. list_any (verifies payload s) keys) signatures ≡ list_any (λ key. list_any (λ s. verifies payload s key) signatures) keys
  by_signature [] keys = sym (none_by_none keys)
  by_signature (s ∷ signatures) keys = ap (λ rest. list_any (verifies payload s) keys || rest) (by_signature signatures keys) ∙ first_or_other s signatures keys

-- ---- the result

-- The payload is not returned if it is not needed.
pub unwanted : (least : ℕ) (keys : List OctetKey) (o : SignedObject) (payload : List ℕ) (r : Result (Unit {0}) Refusal)
    → Agrees (λ done. payload) r (verified_by_least least keys o)
    → AgreesUnlessExternal (verifying_by_least least false keys o) [] r
unfolding verifying_by_least
unwanted least keys o payload (Ok done) h = ap (λ a. a >>= λ p. Ok []) h
unwanted least keys o payload (Err e) h = λ inside. ap (λ a. a >>= λ p. Ok []) h.0
