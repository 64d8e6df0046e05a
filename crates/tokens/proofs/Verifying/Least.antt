-- Objects that at least so many keys signed.
use Rattle.std.proofs.Common.{◌≡◌, ℕ, ◌≤◌, max, List, [], ◌∷◌, length, Bool, true, false, nat_le, nat_eq, is_some, if◌then◌else◌, Result, Ok, Err, refl, sym, ap, ◌∙◌, arith}
use Rattle.std.proofs.lemmas.Bool.{and_parts, eqb-true, le-leb, leb-true}
use Rattle.std.proofs.lemmas.List.Sums.{count_by-le-length}
use Rattle.std.specs.List.{list_any}
use Rattle.octets.specs.declared.refusal.Refusal.{Refusal}
use Rattle.octets.specs.declared.refusal.Refusal.TheVariants.{Key, Unsupported, KeyDoesNotFit, NotOpened}
use Rattle.octets.specs.Outcomes.{◌>>=◌, needs}
use Rattle.octets.proofs.Lemmas.{steps, passed, same_answer}
use Rattle.keys.specs.Algorithms.{signature_alg_of}
use Rattle.keys.specs.Keys.{OctetKey}
use Rattle.keys.specs.KeySets.{key_set}
use Rattle.objects.specs.Jws.{Signature, SignedObject, jws_of}
use Rattle.tokens.specs.Jws.{LeastIsEachSigner}
use Rattle.tokens.specs.Signers.{are_signers, sign_apart}
use Rattle.tokens.specs.Verifying.{FewerAreAccepted, LeastHaveSigned, LeastIsAll, are_verified, has_signed, have_signed, least_of, may_verify, signers_count, verified_by_least, verified_payload, verifying_by, verifying_by_least}
use Rattle.tokens.proofs.Verifying.Counted.{all_is_length, any_is_one}
use Rattle.tokens.proofs.Verifying.Detached.{by_signature}

-- ---- each key, or some

no_candidate : (signatures : List Signature) → list_any (λ s. list_any (may_verify s) []) signatures ≡ false
no_candidate [] = refl
no_candidate (s ∷ signatures) = no_candidate signatures

-- If there is a candidate, there is a key, and then each signed exactly if as many did as there are.
signed_alike : (all : Bool) (keys : List OctetKey) (o : SignedObject) → list_any (λ s. list_any (may_verify s) keys) o.signatures ≡ true
    → are_verified all keys o ≡ have_signed (least_of all keys) keys o
signed_alike true [] o some = let none = no_candidate o.signatures in cc
signed_alike true (key ∷ keys) o some =
    let one : length (key ∷ keys) ≡ max (length (key ∷ keys)) 1 = omega arith in
    all_is_length (has_signed o) (key ∷ keys) ∙ ap (λ n. nat_le n (signers_count (key ∷ keys) o)) one
signed_alike false keys o some = by_signature o.payload o.signatures keys ∙ any_is_one (has_signed o) keys

-- The steps of both definitions are the same but for the last, which is reached if there is a candidate.
alike : (payload : List ℕ) (a b c d : Bool) → (b ≡ true → c ≡ d)
    → (needs a Unsupported >>= λ s. needs b KeyDoesNotFit >>= λ k. needs c NotOpened >>= λ v. Ok payload)
    ≡ (needs a Unsupported >>= λ s. needs b KeyDoesNotFit >>= λ k. needs d NotOpened >>= λ v. Ok payload)
alike payload false b c d same = refl
alike payload true false c d same = refl
alike payload true true c d same = ap (λ t. needs t NotOpened >>= λ v. Ok payload) (same refl)

pub least_is_all : LeastIsAll
unfolding verified_payload verified_by_least
least_is_all all keys o =
    alike o.payload (list_any (λ s. is_some (signature_alg_of s.alg)) o.signatures) (list_any (λ s. list_any (may_verify s) keys) o.signatures)
    (are_verified all keys o) (have_signed (least_of all keys) keys o) (signed_alike all keys o)

pub verifying_alike : (all wanted : Bool) (keys : List OctetKey) (o : SignedObject)
    → verifying_by all wanted keys o ≡ verifying_by_least (least_of all keys) wanted keys o
unfolding verifying_by verifying_by_least
verifying_alike all wanted keys o = ap (λ r. r >>= λ payload. Ok (if wanted then payload else [])) (least_is_all all keys o)

-- ---- each of the signers

as_many : (number : ℕ) (set : List OctetKey) → are_signers number set ≡ true → number ≡ length set
unfolding are_signers
as_many number set h = sym (eqb-true (length set) number (and_parts (nat_eq (length set) number) (sign_apart set) h).0)

pub least_is_each_signer : LeastIsEachSigner
least_is_each_signer limits signers wanted keys detached text = by_set (key_set limits keys true)
  where
    by_object : (set : List OctetKey) → signers ≡ length set → (r : Result SignedObject Refusal)
        → (r >>= verifying_by_least signers wanted set) ≡ (r >>= verifying_by true wanted set)
    by_object set is (Err e) = refl
    by_object set is (Ok o) = ap (λ n. verifying_by_least n wanted set o) is ∙ sym (verifying_alike true wanted set o)

    by_signers : (set : List OctetKey) (own : Bool) → are_signers signers set ≡ own
        → (needs own Key >>= λ _. jws_of limits detached text >>= verifying_by_least signers wanted set)
        ≡ (needs own Key >>= λ _. jws_of limits detached text >>= verifying_by true wanted set)
    by_signers set false is = refl
    by_signers set true is = by_object set (as_many signers set is) (jws_of limits detached text)

    by_set : (r : Result (List OctetKey) Refusal)
        → (r >>= λ set. needs (are_signers signers set) Key >>= λ _. jws_of limits detached text >>= verifying_by_least signers wanted set)
        ≡ (r >>= λ set. needs (are_signers signers set) Key >>= λ _. jws_of limits detached text >>= verifying_by true wanted set)
    by_set (Err e) = refl
    by_set (Ok set) = by_signers set (are_signers signers set) refl

-- ---- what is accepted

record Accepted (least : ℕ) (keys : List OctetKey) (o : SignedObject) (payload : List ℕ) : Type 0 where
  supported : list_any (λ s. is_some (signature_alg_of s.alg)) o.signatures ≡ true
  fits : list_any (λ s. list_any (may_verify s) keys) o.signatures ≡ true
  signed : max least 1 ≤ signers_count keys o
  is : o.payload ≡ payload

accepted : (least : ℕ) (keys : List OctetKey) (o : SignedObject) (payload : List ℕ) → verified_by_least least keys o ≡ Ok payload
    → Accepted least keys o payload
unfolding verified_by_least
accepted least keys o payload h =
    let supports : Bool = list_any (λ s. is_some (signature_alg_of s.alg)) o.signatures in
    let may : Bool = list_any (λ s. list_any (may_verify s) keys) o.signatures in
    let verified : Unit {0} → Result (List ℕ) Refusal = λ _. needs (have_signed least keys o) NotOpened >>= λ _. Ok o.payload in
    let a = steps (needs supports Unsupported) (λ _. needs may KeyDoesNotFit >>= verified) payload h in
    let b = steps (needs may KeyDoesNotFit) verified payload a.2 in
    let c = steps (needs (have_signed least keys o) NotOpened) (λ _. Ok o.payload) payload b.2 in
    record {
      supported = passed supports Unsupported a.0 a.1;
      fits = passed may KeyDoesNotFit b.0 b.1;
      signed = leb-true (max least 1) (signers_count keys o) (passed (have_signed least keys o) NotOpened c.0 c.1);
      is = same_answer o.payload payload c.2;
    }

pub least_have_signed : LeastHaveSigned
least_have_signed least keys o payload h =
    let signed = (accepted least keys o payload h).signed in
    let most = count_by-le-length (has_signed o) keys in
    (omega arith, omega arith, most)

pub fewer_are_accepted : FewerAreAccepted
unfolding verified_by_least
fewer_are_accepted fewer more keys o payload less h =
    let it = accepted more keys o payload h in
    let signed = it.signed in
    let enough : have_signed fewer keys o ≡ true = le-leb (max fewer 1) (signers_count keys o) (omega arith) in
    rw (it.supported, it.fits, enough) (ap Ok it.is)
