-- The heads of the signatures of an object, for which HMACs are made, and the signatures that are compared with them (RFC 7515 section 5.2,
-- step 8).
use Rattle.std.specs.Prelude.{ℕ, ◌==◌, ◌&&◌, ◌||◌, Bool, false, not, List, [], length, map, Option, Some, None, unwrap_or}
use Rattle.std.specs.Borrow.{Bor}
use Rattle.std.specs.List.{list_any, list_all}
use Rattle.std.specs.Str.{bytes_eq}
use Rattle.keys.specs.declared.algorithm.SignatureAlg.{SignatureAlg}
use Rattle.keys.specs.Algorithms.{signature_alg_of, hash_len}
use Rattle.keys.specs.Keys.{OctetKey}
use Rattle.objects.specs.declared.jws.signature.Signature.{Signature as CodeSignature}
use Rattle.objects.specs.Jws.{Signature}
use Rattle.objects.specs.Code.Views.{signature_view}
use Rattle.tokens.specs.declared.verify.heads.Heads.{Heads}
use Rattle.tokens.specs.Signatures.{signature_of}
use Rattle.tokens.specs.Verifying.{candidate_alg}

-- the signature has the length of its algorithm's HMAC, if the algorithm is supported
abbrev pub has_len_by : Option SignatureAlg → Signature → Bool
has_len_by None s = false
has_len_by (Some alg) s = length s.signature == hash_len alg

abbrev pub has_signature_len : Signature → Bool
has_signature_len s = has_len_by (signature_alg_of s.alg) s

-- both have the same algorithm and the same text of the protected header, so a key's HMAC is the same for both (RFC 7515 section 5.2, step
-- 8)
abbrev pub is_alike : Signature → Signature → Bool
is_alike h s = bytes_eq h.alg s.alg && bytes_eq h.protected s.protected

-- each of the signatures has a wrong length, or is alike to a head
abbrev pub is_covered : List Signature → Signature → Bool
is_covered heads s = not (has_signature_len s) || list_any (λ h. is_alike h s) heads

abbrev pub covers : List Signature → List Signature → Bool
covers heads signatures = list_all (is_covered heads) signatures

-- the HMAC is one of those signatures that are alike to the head
abbrev pub is_one_of : List ℕ → Signature → List Signature → Bool
is_one_of mac h signatures = list_any (λ s. bytes_eq mac s.signature && is_alike h s) signatures

-- the key may verify the head, and the HMAC that it makes is one of the signatures that are alike to the head
abbrev pub made_by : Option SignatureAlg → List ℕ → List Signature → Signature → OctetKey → Bool
made_by None payload signatures h key = false
made_by (Some alg) payload signatures h key = is_one_of (signature_of alg key.octets h.protected payload) h signatures

abbrev pub has_made_alike : List ℕ → List Signature → Signature → OctetKey → Bool
has_made_alike payload signatures h key = made_by (candidate_alg h key) payload signatures h key

-- the signatures that the references point to, and those of heads
abbrev pub pointed_views : List (Bor CodeSignature) → List Signature
pointed_views references = map signature_view (map (λ r. r.now) references)

abbrev pub heads_view : Heads → List Signature
heads_view h = map signature_view (unwrap_or h.chosen [])
