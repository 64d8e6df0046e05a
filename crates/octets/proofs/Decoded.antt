-- Decoding a text: the result is octets, and groups are decoded one by one.
use Rattle.std.proofs.Common.{◌≡◌, ℕ, zero, suc, ◌+◌, ◌*◌, ◌/◌, ◌%◌, ◌<◌, ◌≤◌, List, [], ◌∷◌, ◌++◌, length, take, drop, slice_index, Option, Some, None, Result, Ok, Err, ◌⊎◌, inl, inr, refl, sym, ◌∙◌, ap, subst, arith, length-append}
use Rattle.std.proofs.Math.Seq.{take-append_seam, drop-append_seam}
use Rattle.std.proofs.lemmas.List.{length-take-le, take-append-drop}
use Rattle.base64.specs.declared.decode.DecodeError.{DecodeError}
use Rattle.base64.specs.Decode.{IsDecodeTable, or_else, symbol_error, group_error, group_bytes, groups_error, groups_bytes, groups_before_last, lone_error, suffix_bytes, decode_group, decode_outcome, push_leftover, scan, scan_steps, scan_last, leftover_bytes, no_leftover}
use Rattle.base64.specs.Engines.{url_safe_no_pad}
use Rattle.base64.proofs.Decoding.{IsLeftover, IsLeftover_next}
use Rattle.base64.proofs.Tables.{IsDecodeTable_from, are_tables_inverse}
use Rattle.octets.specs.Octets.{IsOctets}
use Rattle.octets.specs.Base64url.{base64url, decoded, or_base64}
use Rattle.octets.proofs.Groups.{base64url-append, length-base64url}
use Rattle.octets.proofs.Meanings.{text_of_meaning, meaning_of_text}

-- ---- lists of octets

pub IsOctets-nil : IsOctets []
IsOctets-nil i = omega arith

pub first_or : (x : ℕ) (xs : List ℕ) → x < 256 → IsOctets xs → IsOctets (x ∷ xs)
first_or x xs h rest zero = h
first_or x xs h rest (suc i) = rest i

pub IsOctets-append : (xs ys : List ℕ) → IsOctets xs → IsOctets ys → IsOctets (xs ++ ys)
IsOctets-append [] ys hx hy = hy
IsOctets-append (x ∷ xs) ys hx hy = first_or x (xs ++ ys) (hx 0) (IsOctets-append xs ys (λ k. hx (suc k)) hy)

pub IsOctets-take : (n : ℕ) (xs : List ℕ) → IsOctets xs → IsOctets (take n xs)
IsOctets-take zero xs h = IsOctets-nil
IsOctets-take (suc n) [] h = IsOctets-nil
IsOctets-take (suc n) (x ∷ xs) h = first_or x (take n xs) (h 0) (IsOctets-take n xs (λ k. h (suc k)))

pub IsOctets-drop : (n : ℕ) (xs : List ℕ) → IsOctets xs → IsOctets (drop n xs)
IsOctets-drop zero xs h = h
IsOctets-drop (suc n) [] h = IsOctets-nil
IsOctets-drop (suc n) (x ∷ xs) h = IsOctets-drop n xs (λ k. h (suc k))

pub IsOctets-front : (xs ys : List ℕ) → IsOctets (xs ++ ys) → IsOctets xs
IsOctets-front xs ys h = subst IsOctets (take-append_seam xs ys) (IsOctets-take (length xs) (xs ++ ys) h)

pub IsOctets-back : (xs ys : List ℕ) → IsOctets (xs ++ ys) → IsOctets ys
IsOctets-back xs ys h = subst IsOctets (drop-append_seam xs ys) (IsOctets-drop (length xs) (xs ++ ys) h)

-- ---- a text decodes to octets

pub both_none : (x y : Option DecodeError) → or_else x y ≡ None → (x ≡ None) × (y ≡ None)
both_none None y h = (refl, h)
both_none (Some e) y h = cc h

small_symbol : (dec s : List ℕ) (i : ℕ) → IsDecodeTable dec → slice_index s i < 256 → symbol_error dec s i ≡ None → slice_index dec (slice_index s i) < 64
small_symbol dec s i table byte h = elim (table (slice_index s i) byte) [
  | inl bad ↦ cc (rw bad at h)
  | inr small ↦ small
]

group_octets : (m0 m1 m2 m3 : ℕ) → m0 < 64 → m1 < 64 → m2 < 64 → m3 < 64 → IsOctets (decode_group m0 m1 m2 m3)
group_octets m0 m1 m2 m3 h0 h1 h2 h3 zero = omega arith
group_octets m0 m1 m2 m3 h0 h1 h2 h3 (suc zero) = omega arith
group_octets m0 m1 m2 m3 h0 h1 h2 h3 (suc (suc zero)) = omega arith
group_octets m0 m1 m2 m3 h0 h1 h2 h3 (suc (suc (suc i))) = omega arith

groups_octets : (dec s : List ℕ) (q : ℕ) → IsDecodeTable dec → IsOctets s → groups_error dec s q ≡ None → IsOctets (groups_bytes dec s q)
unfolding groups_error groups_bytes
groups_octets dec s zero table bytes none = IsOctets-nil
groups_octets dec s (suc q) table bytes none =
    let i : ℕ = 4 * q in
    let parts = both_none (groups_error dec s q) (group_error dec s i) none in
    let p0 = both_none (symbol_error dec s i) _ parts.1 in
    let p1 = both_none (symbol_error dec s (i + 1)) _ p0.1 in
    let p2 = both_none (symbol_error dec s (i + 2)) (symbol_error dec s (i + 3)) p1.1 in
    IsOctets-append (groups_bytes dec s q) (group_bytes dec s i) (groups_octets dec s q table bytes parts.0)
    (group_octets _ _ _ _ (small_symbol dec s i table (bytes i) p0.0) (small_symbol dec s (i + 1) table (bytes (i + 1)) p1.0)
    (small_symbol dec s (i + 2) table (bytes (i + 2)) p2.0) (small_symbol dec s (i + 3) table (bytes (i + 3)) p2.1))

result_cases : {A : Type 0} (r : Result A DecodeError) → ((x : A) × (r ≡ Ok x)) ⊎ ((e : DecodeError) × (r ≡ Err e))
result_cases (Ok x) = inl (x, refl)
result_cases (Err e) = inr (e, refl)

scanned : (dec : List ℕ) (pad at : ℕ) (bs : List ℕ) (st fin : _) (i : ℕ) → IsDecodeTable dec → IsOctets bs → IsLeftover st i → scan dec pad at st i bs ≡ Ok fin
    → (j : ℕ) × IsLeftover fin j
unfolding scan_steps
scanned dec pad at [] st fin i table bytes held h =
    let n : st ≡ fin = cc h in
    (i, rw (← n) held)
scanned dec pad at (b ∷ bs) st fin i table bytes held h = elim (result_cases (push_leftover dec pad at st i b)) [
  | inl ok ↦ scanned dec pad at bs ok.0 fin (i + 1) table (λ k. bytes (suc k)) (IsLeftover_next dec pad at st i b ok.0 table held (bytes 0) ok.1)
      (rw (ok.1, scan_steps) at h)
  | inr err ↦ cc (rw (err.1, scan_steps) at h)
]

zeros_below : (k : ℕ) → slice_index (0 ∷ 0 ∷ 0 ∷ 0 ∷ []) k < 64
zeros_below zero = omega arith
zeros_below (suc zero) = omega arith
zeros_below (suc (suc zero)) = omega arith
zeros_below (suc (suc (suc zero))) = omega arith
zeros_below (suc (suc (suc (suc k)))) = omega arith

leftover_octets : (st : _) (i : ℕ) → IsLeftover st i → IsOctets (leftover_bytes st)
leftover_octets st i held = IsOctets-take _ _ (group_octets _ _ _ _ (held.3 0) (held.3 1) (held.3 2) (held.3 3))

pub outcome_ok : (x : Option DecodeError) (d b : List ℕ) → or_base64 (decode_outcome x d) ≡ Ok b → (x ≡ None) × (d ≡ b)
outcome_ok None d b h = (refl, cc h)
outcome_ok (Some e) d b h = cc h

pub octets_of_meaning : (text z : List ℕ) → IsOctets text → decoded text ≡ Ok z → IsOctets z
unfolding decoded
octets_of_meaning text z bytes ok =
    let e = url_safe_no_pad in
    let dec : List ℕ = e.decode_table in
    let q : ℕ = groups_before_last (length text) in
    let table : IsDecodeTable dec = IsDecodeTable_from e.encode_table dec (are_tables_inverse e.encode_table dec e.padding.value e.tables) in
    let out = outcome_ok _ _ z ok in
    let p0 = both_none (lone_error dec e.padding.value text) _ out.0 in
    let p1 = both_none (groups_error dec text q) _ p0.1 in
    let front : IsOctets (groups_bytes dec text q) = groups_octets dec text q table bytes p1.0 in
    let back : IsOctets (suffix_bytes dec e.padding.value (4 * q) text) = elim (result_cases (scan_last dec e.padding.value (4 * q) text)) [
      | inl ok ↦
          let small = scanned dec e.padding.value (4 * q) (drop (4 * q) text) no_leftover ok.0 0 table (IsOctets-drop (4 * q) text bytes)
          (omega arith, omega arith, omega arith, zeros_below) ok.1 in
          rw ok.1 (leftover_octets ok.0 small.0 small.1)
      | inr err ↦ cc (rw err.1 at p1.1)
    ] in
    subst IsOctets out.1 (IsOctets-append (groups_bytes dec text q) (suffix_bytes dec e.padding.value (4 * q) text) front back)

-- ---- a text is decoded group by group

pub same_front : (a b c d : List ℕ) → a ++ b ≡ c ++ d → length a ≡ length c → (a ≡ c) × (b ≡ d)
same_front a b c d e len = (
  sym (take-append_seam a b) ∙ ap (take (length a)) e ∙ ap (λ n. take n (c ++ d)) len ∙ take-append_seam c d,
  sym (drop-append_seam a b) ∙ ap (drop (length a)) e ∙ ap (λ n. drop n (c ++ d)) len ∙ drop-append_seam c d,
)

-- If a text of whole groups and a rest decodes, the groups decode to the first octets and the rest to the others.
pub parts_of_meaning : (g r z : List ℕ) → IsOctets (g ++ r) → length g % 4 ≡ 0 → decoded (g ++ r) ≡ Ok z
    → (decoded g ≡ Ok (take (length g / 4 * 3) z)) × (decoded r ≡ Ok (drop (length g / 4 * 3) z))
parts_of_meaning g r z bytes groups ok =
    let n : ℕ = length g / 4 * 3 in
    let text : g ++ r ≡ base64url z = text_of_meaning (g ++ r) z bytes ok in
    let octets : IsOctets z = octets_of_meaning (g ++ r) z bytes ok in
    let long : n ≤ length z = omega (arith, ap length text, length-append g r, length-base64url z) in
    let front : length (take n z) ≡ n = length-take-le n z long in
    let cut : base64url z ≡ base64url (take n z) ++ base64url (drop n z) =
    ap base64url (sym (take-append-drop n z)) ∙ base64url-append (take n z) (drop n z) (omega (arith, front)) in
    let same = same_front g r (base64url (take n z)) (base64url (drop n z)) (text ∙ cut) (omega (arith, front, length-base64url (take n z))) in
    (ap decoded same.0 ∙ meaning_of_text (take n z) (IsOctets-take n z octets), ap decoded same.1 ∙ meaning_of_text (drop n z) (IsOctets-drop n z octets))

pub meaning_of_parts : (g r x y : List ℕ) → IsOctets (g ++ r) → length g % 4 ≡ 0 → decoded g ≡ Ok x → decoded r ≡ Ok y → decoded (g ++ r) ≡ Ok (x ++ y)
meaning_of_parts g r x y bytes groups front back =
    let hg : IsOctets g = IsOctets-front g r bytes in
    let hr : IsOctets r = IsOctets-back g r bytes in
    let tg : g ≡ base64url x = text_of_meaning g x hg front in
    let tr : r ≡ base64url y = text_of_meaning r y hr back in
    let whole : length x % 3 ≡ 0 = omega (arith, groups, ap length tg, length-base64url x) in
    ap (λ l. decoded (l ++ r)) tg ∙ ap (λ l. decoded (base64url x ++ l)) tr ∙ ap decoded (sym (base64url-append x y whole))
    ∙ meaning_of_text (x ++ y) (IsOctets-append x y (octets_of_meaning g x hg front) (octets_of_meaning r y hr back))

-- The empty text decodes to no octets.
pub decoded-nil : decoded [] ≡ Ok []
unfolding decoded groups_error groups_bytes scan_steps
decoded-nil = refl
