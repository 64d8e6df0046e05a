-- The HMACs of heads decide which signatures a key made.
use Rattle.std.proofs.Common.{◌≡◌, ℕ, ◌+◌, ◌<◌, Bool, true, false, not, List, [], ◌∷◌, ◌++◌, length, map, take, get_or, Option, Some, None, ◌&&◌, ◌||◌, if◌then◌else◌, refl, sym, ap, subst, ◌∙◌}
use Rattle.std.proofs.lemmas.Bool.{and_parts, and_from}
use Rattle.std.proofs.lemmas.Bool.Decides.{same_from_decides, Decides-eqb}
use Rattle.std.proofs.lemmas.List.{take_more, map-append}
use Rattle.std.proofs.lemmas.List.Folds.{Any-from_list_any, list_any-from_Any, list_any-append, list_all-append}
use Rattle.std.proofs.lemmas.List.Sums.{AllPass-from_list_all}
use Rattle.std.proofs.lemmas.Slice.Eq.{bytes_eq-Decides}
use Rattle.std.specs.Borrow.{Bor}
use Rattle.std.specs.List.{Any, list_any}
use Rattle.std.specs.Str.{bytes_eq}
use Rattle.prf.specs.Hmac.{hmac}
use Rattle.keys.specs.declared.algorithm.SignatureAlg.{SignatureAlg}
use Rattle.keys.specs.Algorithms.{signature_alg_of, hash_len}
use Rattle.keys.specs.Keys.{OctetKey}
use Rattle.objects.specs.declared.jws.signature.Signature.{Signature as CodeSignature}
use Rattle.objects.specs.Jws.{Signature}
use Rattle.objects.specs.Code.Views.{signature_view}
use Rattle.tokens.specs.Signatures.{signature_of}
use Rattle.tokens.specs.Verifying.{candidate_by, candidate_alg, is_candidate, verifies_by, verifies}
use Rattle.tokens.specs.Code.Heads.{has_len_by, has_signature_len, is_alike, is_covered, covers, made_by, has_made_alike, pointed_views}
use Rattle.tokens.proofs.AlgorithmCases.{signature_hash_law}
use Rattle.tokens.proofs.Elements.{list_any-map}

-- ---- signatures that are alike

alike_self : (s : Signature) → is_alike s s ≡ true
alike_self s = and_from _ _ ((bytes_eq-Decides s.alg s.alg).1 refl) ((bytes_eq-Decides s.protected s.protected).1 refl)

abbrev AreAlike : Signature → Signature → Type 0
AreAlike h s = (h.alg ≡ s.alg) × (h.protected ≡ s.protected)

are_alike : (h s : Signature) → is_alike h s ≡ true → AreAlike h s
are_alike h s k =
    let both = and_parts (bytes_eq h.alg s.alg) (bytes_eq h.protected s.protected) k in
    ((bytes_eq-Decides h.alg s.alg).0 both.0, (bytes_eq-Decides h.protected s.protected).0 both.1)

-- A key is a candidate for both or for neither.
same_candidate : (key : OctetKey) (h s : Signature) → AreAlike h s → candidate_alg h key ≡ candidate_alg s key
same_candidate key h s alike = ap (λ a. candidate_by (signature_alg_of a) key) alike.0

-- ---- heads of more and more signatures

or_more : (a b c : Bool) → (a || b) ≡ true → (a || (b || c)) ≡ true
or_more true b c h = refl
or_more false true c h = refl
or_more false false c h = cc h

or_last : (a b : Bool) → (a || (b || true)) ≡ true
or_last true b = refl
or_last false true = refl
or_last false false = refl

with_head : (heads : List Signature) (h s : Signature)
    → is_covered (heads ++ (h ∷ [])) s ≡ (not (has_signature_len s) || (list_any (λ h. is_alike h s) heads || (is_alike h s || false)))
with_head heads h s = ap (λ b. not (has_signature_len s) || b) (list_any-append (λ h. is_alike h s) heads (h ∷ []))

-- What heads cover, they cover with one more head.
covers_by_more : (heads : List Signature) (h : Signature) (ss : List Signature) → covers heads ss ≡ true → covers (heads ++ (h ∷ [])) ss ≡ true
covers_by_more heads h [] k = refl
covers_by_more heads h (s ∷ ss) k =
    let both = and_parts (is_covered heads s) (covers heads ss) k in
    let more = or_more (not (has_signature_len s)) (list_any (λ h. is_alike h s) heads) (is_alike h s || false) both.0 in
    and_from _ _ (with_head heads h s ∙ more) (covers_by_more heads h ss both.1)

module _ (heads : List Signature) (signatures : List CodeSignature) (i : ℕ) (s : CodeSignature) where
  -- One more signature is covered.
  pub covers_one_more : i < length signatures → s ≡ get_or signatures i s → is_covered heads (signature_view s) ≡ true
      → covers heads (map signature_view (take i signatures)) ≡ true → covers heads (map signature_view (take (i + 1) signatures)) ≡ true
  covers_one_more lt is here before =
      let front = take i signatures in
      ap (λ l. covers heads (map signature_view l)) (take_more signatures i s lt ∙ ap (λ x. front ++ (x ∷ [])) (sym is))
      ∙ ap (covers heads) (map-append signature_view front (s ∷ []))
      ∙ list_all-append (is_covered heads) (map signature_view front) (signature_view s ∷ []) ∙ and_from _ _ before (and_from _ _ here refl)

-- One more signature is a head.
pub covers_by_one_more : (heads : List Signature) (signatures : List CodeSignature) (i : ℕ) (s : CodeSignature)
    → i < length signatures → s ≡ get_or signatures i s → covers heads (map signature_view (take i signatures)) ≡ true
    → covers (heads ++ (signature_view s ∷ [])) (map signature_view (take (i + 1) signatures)) ≡ true
covers_by_one_more heads signatures i s lt is before =
    let v = signature_view s in
    let wrong = not (has_signature_len v) in
    let rest = list_any (λ h. is_alike h v) heads in
    let here = with_head heads v v ∙ ap (λ b. wrong || (rest || (b || false))) (alike_self v) ∙ or_last wrong rest in
    covers_one_more (heads ++ (v ∷ [])) signatures i s lt is here (covers_by_more heads v (map signature_view (take i signatures)) before)

-- ---- the signatures that a key made

-- An HMAC has the length of its algorithm.
length-signature_of : (alg : SignatureAlg) (key protected payload : List ℕ) → length (signature_of alg key protected payload) ≡ hash_len alg
unfolding signature_of hmac
length-signature_of alg key protected payload = (signature_hash_law alg).digests _

or_second : (a b : Bool) → a ≡ true → (not a || b) ≡ true → b ≡ true
or_second true b k h = h
or_second false b k h = cc k

module _ (payload : List ℕ) (key : OctetKey) where
  abbrev mac : SignatureAlg → Signature → List ℕ
  mac alg s = signature_of alg key.octets s.protected payload

  same_mac : (alg : SignatureAlg) (h s : Signature) → AreAlike h s → mac alg h ≡ mac alg s
  same_mac alg h s alike = ap (λ p. signature_of alg key.octets p payload) alike.1

  -- A signature that verifies has the length of its algorithm's HMAC.
  has_len : (a : Option SignatureAlg) (s : Signature) → verifies_by (candidate_by a key) payload s key ≡ true → has_len_by a s ≡ true
  has_len None s h = cc h
  has_len (Some alg) s h = by (is_candidate alg key) h
    where
      by : (b : Bool) → verifies_by (if b then Some alg else None) payload s key ≡ true → has_len_by (Some alg) s ≡ true
      by true h =
          let len = ap length ((bytes_eq-Decides s.signature (mac alg s)).0 h) ∙ length-signature_of alg key.octets s.protected payload in
          (Decides-eqb (length s.signature) (hash_len alg)).1 len
      by false h = cc h

  -- If the HMAC of a head is a signature that is alike to it, that signature verifies.
  verifies_alike : (a : Option SignatureAlg) (signatures : List Signature) (h : Signature) → candidate_alg h key ≡ a
      → made_by a payload signatures h key ≡ true → list_any (λ s. verifies payload s key) signatures ≡ true
  verifies_alike None signatures h is made = cc made
  verifies_alike (Some alg) signatures h is made =
      let some = Any-from_list_any (λ s. bytes_eq (mac alg h) s.signature && is_alike h s) signatures made in
      list_any-from_Any (λ s. verifies payload s key) signatures (some.0, some.1, some.2, some.3, verified some.1 some.4)
    where
      verified : (s : Signature) → (bytes_eq (mac alg h) s.signature && is_alike h s) ≡ true → verifies payload s key ≡ true
      verified s k =
          let both = and_parts (bytes_eq (mac alg h) s.signature) (is_alike h s) k in
          let alike = are_alike h s both.1 in
          let signed = sym ((bytes_eq-Decides (mac alg h) s.signature).0 both.0) ∙ same_mac alg h s alike in
          ap (λ a. verifies_by a payload s key) (sym (same_candidate key h s alike) ∙ is) ∙ (bytes_eq-Decides s.signature (mac alg s)).1 signed

  -- If a signature verifies, each head that is alike to it has its HMAC.
  made_alike : (a : Option SignatureAlg) (signatures : List Signature) (h s : Signature) (i : ℕ) → i < length signatures → get_or signatures i s ≡ s
      → is_alike h s ≡ true → verifies_by a payload s key ≡ true → made_by a payload signatures h key ≡ true
  made_alike None signatures h s i lt at alike k = cc k
  made_alike (Some alg) signatures h s i lt at alike k =
      let same = same_mac alg h s (are_alike h s alike) ∙ sym ((bytes_eq-Decides s.signature (mac alg s)).0 k) in
      let here = and_from _ _ ((bytes_eq-Decides (mac alg h) s.signature).1 same) alike in
      list_any-from_Any (λ s. bytes_eq (mac alg h) s.signature && is_alike h s) signatures (i, s, lt, at, here)

  module _ (heads signatures : List Signature) (all : covers heads signatures ≡ true) where
    abbrev made : Signature → Bool
    made h = has_made_alike payload signatures h key

    -- If some signature verifies, the HMAC of some head is such a signature.
    some_made : list_any (λ s. verifies payload s key) signatures ≡ true → list_any made heads ≡ true
    some_made k =
        let some = Any-from_list_any (λ s. verifies payload s key) signatures k in
        let s = some.1 in
        let covered = subst (λ x. is_covered heads x ≡ true) some.3 (AllPass-from_list_all (is_covered heads) signatures all some.0 s some.2) in
        let long = has_len (signature_alg_of s.alg) s some.4 in
        let head = Any-from_list_any (λ h. is_alike h s) heads (or_second (has_signature_len s) (list_any (λ h. is_alike h s) heads) long covered) in
        let h = head.1 in
        let same = ap (λ a. made_by a payload signatures h key) (same_candidate key h s (are_alike h s head.4)) in
        let here = same ∙ made_alike (candidate_alg s key) signatures h s some.0 some.2 some.3 head.4 some.4 in
        list_any-from_Any made heads (head.0, h, head.2, head.3, here)

    -- The key made a signature exactly if its HMAC of a head is a signature that is alike to the head.
    pub heads_decide : list_any made heads ≡ list_any (λ s. verifies payload s key) signatures
    heads_decide =
        let one = list_any made heads in
        let other = list_any (λ s. verifies payload s key) signatures in
        same_from_decides {P = other ≡ true} one other ((λ k. verified (Any-from_list_any made heads k)), some_made) ((λ k. k), (λ k. k))
      where
        verified : Any (λ h. made h ≡ true) heads → list_any (λ s. verifies payload s key) signatures ≡ true
        verified some = verifies_alike (candidate_alg some.1 key) signatures some.1 refl some.4

-- ---- references to heads

pub list_any_pointed : (test : Signature → Bool) (references : List (Bor CodeSignature))
    → list_any test (pointed_views references) ≡ list_any (λ r. test (signature_view r.now)) references
list_any_pointed test references =
    list_any-map test signature_view (map (λ r. r.now) references) ∙ list_any-map (λ h. test (signature_view h)) (λ r. r.now) references

pub pointed_decide : (payload : List ℕ) (key : OctetKey) (references : List (Bor CodeSignature)) (signatures : List Signature)
    → covers (pointed_views references) signatures ≡ true
    → list_any (λ r. has_made_alike payload signatures (signature_view r.now) key) references ≡ list_any (λ s. verifies payload s key) signatures
pointed_decide payload key references signatures all =
    sym (list_any_pointed (λ h. has_made_alike payload signatures h key) references) ∙ heads_decide payload key (pointed_views references) signatures all
