-- An object is built the same way with every payload and all octets of its signatures.
use Rattle.std.proofs.Common.{◌≡◌, ℕ, Bool, true, false, nat_le, List, [], ◌∷◌, length, codes, Result, Ok, Err, refl, sym, ap, arith}
use Rattle.std.specs.List.{list_all}
use Rattle.serde_json.specs.Data.{Members, no_members, object, depth}
use Rattle.octets.specs.declared.refusal.Refusal.{Refusal}
use Rattle.octets.specs.declared.refusal.Refusal.TheVariants.{Json, Number, Form, Unsupported, Limit, NotCompact}
use Rattle.octets.specs.Base64url.{decoded}
use Rattle.octets.specs.Outcomes.{◌>>=◌, needs}
use Rattle.ciphers.specs.declared.key_alg.KeyAlg.{KeyAlg}
use Rattle.keys.specs.Json.{member_numbers_are_whole}
use Rattle.keys.specs.Limits.{Limits, are_few}
use Rattle.objects.specs.Code.Frames.{with_octets, signed_with}
use Rattle.objects.specs.Headers.{protected_members, joint_header, string_there}
use Rattle.objects.specs.Jws.{SignatureParts, DecodedSignature, HeadedSignature, Signature, SignedObject, decoded_part, headed_signature, signature_by, headers_have_no_crit, signatures_of, signed_object, built, is_compact, jws_text, jws_compact_text}
use Rattle.objects.specs.KeyManagement.{KeyManagement, key_management}
use Rattle.objects.specs.Texts.{each, depth_of_each}

-- ---- a value inserted into each element of a list

abbrev pub with_all : {X : Type 0} → (X → List ℕ → X) → List X → List (List ℕ) → List X
with_all put [] values = []
with_all put (x ∷ xs) [] = x ∷ xs
with_all put (x ∷ xs) (v ∷ values) = put x v ∷ with_all put xs values

with_none : {X : Type 0} (put : X → List ℕ → X) (xs : List X) → with_all put xs [] ≡ xs
with_none put [] = refl
with_none put (x ∷ xs) = refl

length-with_all : {X : Type 0} (put : X → List ℕ → X) (xs : List X) (values : List (List ℕ)) → length (with_all put xs values) ≡ length xs
length-with_all put [] values = refl
length-with_all put (x ∷ xs) [] = refl
length-with_all put (x ∷ xs) (v ∷ values) = omega (arith, length-with_all put xs values)

all-with_all : {X : Type 0} (put : X → List ℕ → X) (test : X → Bool) → ((x : X) (v : List ℕ) → test (put x v) ≡ test x) → (xs : List X) (values : List (List ℕ))
    → list_all test (with_all put xs values) ≡ list_all test xs
all-with_all put test same [] values = refl
all-with_all put test same (x ∷ xs) [] = refl
all-with_all put test same (x ∷ xs) (v ∷ values) = rw (same x v, all-with_all put test same xs values) refl

each-with_all : {X Y : Type 0} (read : X → Result Y Refusal) (put : X → List ℕ → X) (then_put : Y → List ℕ → Y)
    → ((x : X) (v : List ℕ) → read (put x v) ≡ (read x >>= λ y. Ok (then_put y v)))
    → (xs : List X) (values : List (List ℕ)) → each read (with_all put xs values) ≡ (each read xs >>= λ ys. Ok (with_all then_put ys values))
each-with_all read put then_put one [] values = refl
each-with_all read put then_put one (x ∷ xs) [] = as_it_is (each read (x ∷ xs))
  where
    as_it_is : (r : Result (List _) Refusal) → r ≡ (r >>= λ ys. Ok (with_all then_put ys []))
    as_it_is (Ok ys) = ap Ok (sym (with_none then_put ys))
    as_it_is (Err e) = refl
each-with_all read put then_put one (x ∷ xs) (v ∷ values) = rw (one x v, each-with_all read put then_put one xs values) (by_answers (read x) (each read xs))
  where
    by_answers : (first : Result _ Refusal) (others : Result (List _) Refusal)
        → ((first >>= λ y. Ok (then_put y v)) >>= λ f. (others >>= λ ys. Ok (with_all then_put ys values)) >>= λ more. Ok (f ∷ more))
        ≡ ((first >>= λ f. others >>= λ more. Ok (f ∷ more)) >>= λ ys. Ok (with_all then_put ys (v ∷ values)))
    by_answers (Ok y) (Ok ys) = refl
    by_answers (Ok y) (Err e) = refl
    by_answers (Err e) others = refl

-- ---- a signature, from step to step

abbrev pub put_part : SignatureParts → List ℕ → SignatureParts
put_part p v = record { protected = p.protected; header = p.header; signature = v }

abbrev put_decoded : DecodedSignature → List ℕ → DecodedSignature
put_decoded d v = record { octets = d.octets; parts = put_part d.parts v }

abbrev put_headed : HeadedSignature → List ℕ → HeadedSignature
put_headed h v = record { members = h.members; parts = put_part h.parts v }

abbrev put_octets : Signature → List ℕ → Signature
put_octets s v = record { protected = s.protected; protected_members = s.protected_members; header = s.header; signature = v; alg = s.alg }

-- a signature with these octets and this algorithm
abbrev made_with : HeadedSignature → List ℕ → List ℕ → Signature
made_with h v alg = record { protected = h.parts.protected; protected_members = h.members; header = h.parts.header; signature = v; alg = alg }

decoded_alike : (p : SignatureParts) (v : List ℕ) → decoded_part (put_part p v) ≡ (decoded_part p >>= λ d. Ok (put_decoded d v))
unfolding decoded_part
decoded_alike p v = by_answer (decoded p.protected)
  where
    by_answer : (r : Result (List ℕ) Refusal)
        → (r >>= λ octets. Ok (record { octets = octets; parts = put_part p v }))
        ≡ ((r >>= λ octets. (let d : Result DecodedSignature Refusal = Ok (record { octets = octets; parts = p }) in d)) >>= λ d. Ok (put_decoded d v))
    by_answer (Ok octets) = refl
    by_answer (Err e) = refl

headed_alike : (d : DecodedSignature) (v : List ℕ) → headed_signature (put_decoded d v) ≡ (headed_signature d >>= λ h. Ok (put_headed h v))
unfolding headed_signature
headed_alike d v = by_answer (protected_members d.octets)
  where
    by_answer : (r : Result Members Refusal)
        → (r >>= λ members. Ok (record { members = members; parts = put_part d.parts v }))
        ≡ ((r >>= λ members. (let h : Result HeadedSignature Refusal = Ok (record { members = members; parts = d.parts }) in h)) >>= λ h. Ok (put_headed h v))
    by_answer (Ok own) = refl
    by_answer (Err e) = refl

signature_alike : (algs : List KeyAlg) (h : HeadedSignature) (v : List ℕ)
    → signature_by algs (put_headed h v) ≡ (signature_by algs h >>= λ s. Ok (put_octets s v))
unfolding signature_by
signature_alike algs h v = by_header (joint_header h.members no_members h.parts.header)
  where
    by_management : (alg : List ℕ) (r : Result KeyManagement Refusal)
        → (r >>= λ management. Ok (made_with h v alg)) ≡ ((r >>= λ management. Ok (made_with h h.parts.signature alg)) >>= λ s. Ok (put_octets s v))
    by_management alg (Ok management) = refl
    by_management alg (Err e) = refl

    by_alg : (header : Members) (r : Result (List ℕ) Refusal)
        → (r >>= λ alg. key_management algs alg header >>= λ management. Ok (made_with h v alg))
        ≡ ((r >>= λ alg. key_management algs alg header >>= λ management. Ok (made_with h h.parts.signature alg)) >>= λ s. Ok (put_octets s v))
    by_alg header (Ok alg) = by_management alg (key_management algs alg header)
    by_alg header (Err e) = refl

    by_header : (r : Result Members Refusal)
        → (r >>= λ header. string_there (codes "alg") header >>= λ alg. key_management algs alg header >>= λ management. Ok (made_with h v alg))
        ≡ ((r >>= λ header. string_there (codes "alg") header >>= λ alg. key_management algs alg header
        >>= λ management. Ok (made_with h h.parts.signature alg)) >>= λ s. Ok (put_octets s v))
    by_header (Ok header) = by_alg header (string_there (codes "alg") header)
    by_header (Err e) = refl

signatures_alike : (algs : List KeyAlg) (ds : List DecodedSignature) (values : List (List ℕ))
    → signatures_of algs (with_all put_decoded ds values) ≡ (signatures_of algs ds >>= λ ss. Ok (with_all put_octets ss values))
unfolding signatures_of
signatures_alike algs ds values = rw (each-with_all headed_signature put_decoded put_headed headed_alike ds values) (by_headed (each headed_signature ds))
  where
    by_signatures : (plain : Bool) (r : Result (List Signature) Refusal)
        → ((r >>= λ ss. Ok (with_all put_octets ss values)) >>= λ ss. needs plain Unsupported >>= λ u. Ok ss)
        ≡ ((r >>= λ ss. needs plain Unsupported >>= λ u. Ok ss) >>= λ ss. Ok (with_all put_octets ss values))
    by_signatures true (Ok ss) = refl
    by_signatures false (Ok ss) = refl
    by_signatures plain (Err e) = refl

    by_headed : (r : Result (List HeadedSignature) Refusal)
        → ((r >>= λ hs. Ok (with_all put_headed hs values)) >>= λ hs. each (signature_by algs) hs
        >>= λ ss. needs (list_all headers_have_no_crit hs) Unsupported >>= λ u. Ok ss)
        ≡ ((r >>= λ hs. each (signature_by algs) hs >>= λ ss. needs (list_all headers_have_no_crit hs) Unsupported >>= λ u. Ok ss)
        >>= λ ss. Ok (with_all put_octets ss values))
    by_headed (Ok hs) =
        rw (
          each-with_all (signature_by algs) put_headed put_octets (signature_alike algs) hs values,
          all-with_all put_headed headers_have_no_crit (λ h v. refl) hs values,
        )
        (by_signatures (list_all headers_have_no_crit hs) (each (signature_by algs) hs))
    by_headed (Err e) = refl

with_octets_is : (ss : List Signature) (values : List (List ℕ)) → with_all put_octets ss values ≡ with_octets ss values
with_octets_is [] values = refl
with_octets_is (s ∷ ss) [] = refl
with_octets_is (s ∷ ss) (v ∷ values) = ap (λ l. put_octets s v ∷ l) (with_octets_is ss values)

-- ---- the object

pub built_alike : (limits : Limits) (own payload : List ℕ) (parts : List SignatureParts) (values : List (List ℕ))
    → built limits (record { payload = payload; signatures = with_all put_part parts values })
    ≡ (built limits (record { payload = own; signatures = parts }) >>= λ o. Ok (signed_with o payload values))
unfolding built signed_object
built_alike limits own payload parts values =
    rw (
      length-with_all put_part parts values,
      all-with_all put_part (λ p. nat_le (depth (object p.header)) (depth_of_each (length parts))) (λ p v. refl) parts values,
      all-with_all put_part (λ p. member_numbers_are_whole p.header) (λ p v. refl) parts values,
      each-with_all decoded_part put_part put_decoded decoded_alike parts values,
    )
    (by_tests (list_all (λ p. nat_le (depth (object p.header)) (depth_of_each (length parts))) parts) (list_all (λ p. member_numbers_are_whole p.header) parts)
    (nat_le 1 (length parts)) (are_few limits (length parts)) (each decoded_part parts))
  where
    by_signatures : (r : Result (List Signature) Refusal)
        → ((r >>= λ ss. Ok (with_all put_octets ss values)) >>= λ ss. Ok (record { payload = payload; signatures = ss }))
        ≡ ((r >>= λ ss. (let o : Result SignedObject Refusal = Ok (record { payload = own; signatures = ss }) in o)) >>= λ o. Ok (signed_with o payload values))
    by_signatures (Ok ss) = ap (λ l. Ok (record { payload = payload; signatures = l })) (with_octets_is ss values)
    by_signatures (Err e) = refl

    by_decoded : (r : Result (List DecodedSignature) Refusal)
        → ((r >>= λ ds. Ok (with_all put_decoded ds values)) >>= λ ds. signatures_of limits.management ds
        >>= λ ss. Ok (record { payload = payload; signatures = ss }))
        ≡ ((r >>= λ ds. signatures_of limits.management ds
        >>= λ ss. (let o : Result SignedObject Refusal = Ok (record { payload = own; signatures = ss }) in o)) >>= λ o. Ok (signed_with o payload values))
    by_decoded (Ok ds) = rw (signatures_alike limits.management ds values) (by_signatures (signatures_of limits.management ds))
    by_decoded (Err e) = refl

    by_tests : (shallow whole some few : Bool) (r : Result (List DecodedSignature) Refusal)
        → (needs shallow Json >>= λ _. needs whole Number >>= λ _. needs some Form >>= λ _. needs few Limit
        >>= λ _. (r >>= λ ds. Ok (with_all put_decoded ds values)) >>= λ ds. signatures_of limits.management ds
        >>= λ ss. Ok (record { payload = payload; signatures = ss }))
        ≡ ((needs shallow Json >>= λ _. needs whole Number >>= λ _. needs some Form >>= λ _. needs few Limit
        >>= λ _. r >>= λ ds. signatures_of limits.management ds
        >>= λ ss. (let o : Result SignedObject Refusal = Ok (record { payload = own; signatures = ss }) in o)) >>= λ o. Ok (signed_with o payload values))
    by_tests false whole some few r = refl
    by_tests true false some few r = refl
    by_tests true true false few r = refl
    by_tests true true true false r = refl
    by_tests true true true true r = by_decoded r

-- With other octets in its signatures, an object fits into compact form exactly if it did before.
compact_alike : (ss : List Signature) (values : List (List ℕ)) → is_compact (with_octets ss values) ≡ is_compact ss
compact_alike [] values = refl
compact_alike (s ∷ []) [] = refl
compact_alike (s ∷ []) (v ∷ values) = refl
compact_alike (s ∷ (other ∷ rest)) [] = refl
compact_alike (s ∷ (other ∷ rest)) (v ∷ []) = refl
compact_alike (s ∷ (other ∷ rest)) (v ∷ (w ∷ values)) = refl

pub refused_alike : (compact detach : Bool) (o : SignedObject) (payload : List ℕ) (values : List (List ℕ)) → jws_text compact detach o ≡ Err NotCompact
    → jws_text compact detach (signed_with o payload values) ≡ Err NotCompact
unfolding jws_compact_text
refused_alike false detach o payload values h = cc h
refused_alike true detach o payload values h = rw (compact_alike o.signatures values) (by_test (is_compact o.signatures) _ _ h)
  where
    by_test : (fits : Bool) (x y : List ℕ) → (needs fits NotCompact >>= λ _. Ok x) ≡ Err NotCompact → (needs fits NotCompact >>= λ _. Ok y) ≡ Err NotCompact
    by_test true x y h = cc h
    by_test false x y h = refl
