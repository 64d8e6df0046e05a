-- Look-ups, lane by lane.
use Rattle.std.proofs.Common.{◌≡◌, ℕ, ◌+◌, ◌*◌, ◌/◌, ◌%◌, ◌<◌, Bool, true, false, cond, ltb, leb, ◌||◌, T, List, [], ◌∷◌, zero, suc, map, length, get_or, refl, sym, ap, subst, ◌∙◌, arith, ltb-true, ⊎_elim, w8, Fits}
use Rattle.std.proofs.lemmas.List.{get_or-map, length-map, ext_get_or, get_or_past, take_all}
use Rattle.std.proofs.lemmas.Bool.{and_parts, cases_lt}
use Rattle.std.proofs.lemmas.Simd.{Each1-from_get_or, map-map, swz_l, SwzOk, SwzOk-from_Each1, SwzOk-from_below, length-swz_l, get_or-swz_l, get_or-swz_l_below, get_or-chunk, length-chunk}
use Rattle.std.specs.Simd.Lanes.{Each1, pick_l, all_below as lanes_below}
use Rattle.aes.proofs.Below.{all_below, all_below_at}
use Rattle.aes.specs.Code.Blocks.{block}
use Rattle.aes.specs.Code.LookUps.{is_place, AreInTable, entry, low_of, high_of, sum_of, with_i_of, with_j_of, p_of, q_of}

pub lane_fits : (v : List ℕ) (i : ℕ) → Each1 (Fits w8) v → get_or v i 0 < 256
lane_fits [] i h = omega arith
lane_fits (x ∷ xs) zero h = h.0.fits
lane_fits (x ∷ xs) (suc i) h = lane_fits xs i h.1

-- ---- the lanes of a block

pub lane_in_block : (v : List ℕ) (i k : ℕ) → k < 16 → get_or (block v i) k 0 ≡ get_or v (16 * i + k) 0
lane_in_block v i k h = get_or-chunk (16 * i) 16 v k 0 h

block_of_lane : (v : List ℕ) (k : ℕ) → get_or v k 0 ≡ get_or (block v (k / 16)) (k % 16) 0
block_of_lane v k =
    ap (λ n. get_or v n 0) (let e : k ≡ 16 * (k / 16) + k % 16 = omega arith in e) ∙ sym (lane_in_block v (k / 16) (k % 16) (omega arith))

pub whole_block : (v : List ℕ) → length v ≡ 16 → (i : ℕ) → i < 1 → block v i ≡ v
whole_block v long zero h = take_all 16 v (omega (arith, long))
whole_block v long (suc i) h = absurd (omega (arith, h))

-- each of the first b blocks of v is k
abbrev pub IsRepeated : ℕ → List ℕ → List ℕ → Type 0
IsRepeated b k v = (i : ℕ) → i < b → block v i ≡ k

lane_of_repeated : (b : ℕ) (k v : List ℕ) → IsRepeated b k v → (i j : ℕ) → i < b → j < 16 → get_or v (16 * i + j) 0 ≡ get_or k j 0
lane_of_repeated b k v same i j h l = sym (lane_in_block v i j l) ∙ ap (λ l. get_or l j 0) (same i h)

-- ---- what the vector instruction asks of b blocks of places, and what it gives

lane_is_place : (js : List ℕ) → ((i : ℕ) → AreInTable (block js i)) → (k : ℕ) → is_place (get_or js k 0) ≡ true
lane_is_place js h k = ap is_place (block_of_lane js k) ∙ h (k / 16) (k % 16) (omega arith)

pub places_ok : (b n : ℕ) (js : List ℕ) → n ≡ b * 16 → length js ≡ n → ((i : ℕ) → AreInTable (block js i)) → SwzOk w8 16 n 0 js
places_ok b n js whole long h = SwzOk-from_Each1 w8 16 b n 0 js whole (omega (arith, long))
    (Each1-from_get_or (λ j. T (leb 128 j || ltb j 16)) js 0 (λ i l. subst T (sym (lane_is_place js h i)) tt))

chosen : (p q : Bool) (x y : ℕ) → (p || q) ≡ true → (q ≡ true → x ≡ y) → cond p 0 x ≡ cond p 0 y
chosen true q x y h e = refl
chosen false q x y h e = e h

-- t has the table in each block
pub swizzled : (b : ℕ) (table t js : List ℕ) → IsRepeated b table t → length js ≡ b * 16 → ((i : ℕ) → AreInTable (block js i))
    → swz_l w8 16 t 0 js ≡ map (entry table) js
unfolding entry
swizzled b table t js same long h = ext_get_or 0 _ _ (length-swz_l w8 16 t 0 js ∙ sym (length-map js (entry table))) (λ i l.
    let lt : i < length js = omega (arith, length-swz_l w8 16 t 0 js) in
    let here : (0 + i) / 16 ≡ i / 16 = omega arith in
    let inside : i / 16 < b = omega (arith, long, lt) in
    let j = get_or js i 0 in
    get_or-swz_l w8 16 t 0 js i lt
    ∙ chosen (leb 128 j) (ltb j 16) _ _ (lane_is_place js h i)
    (λ s. ap (λ n. get_or t (16 * n + j) 0) here ∙ lane_of_repeated b table t same (i / 16) j inside (ltb-true j 16 s))
    ∙ sym (get_or-map (entry table) js i 0 0 lt))

-- ---- the same for an order of the octets of a block

pub below_16 : (ks : List ℕ) → lanes_below 16 ks ≡ true → (k : ℕ) → get_or ks k 0 < 16
below_16 [] h k = omega arith
below_16 (x ∷ xs) h zero = ltb-true x 16 (and_parts (ltb x 16) (lanes_below 16 xs) h).0
below_16 (x ∷ xs) h (suc k) = below_16 xs (and_parts (ltb x 16) (lanes_below 16 xs) h).1 k

pub order_ok : (b n : ℕ) (ks js : List ℕ) → n ≡ b * 16 → length js ≡ n → ((k : ℕ) → get_or ks k 0 < 16) → IsRepeated b ks js → SwzOk w8 16 n 0 js
order_ok b n ks js whole long small same = SwzOk-from_below w8 16 b n 0 js whole (omega (arith, long)) (Each1-from_get_or (λ j. j < 16) js 0 (λ i l.
    let inside : i / 16 < b = omega (arith, l, long, whole) in
    subst (λ n. n < 16) (sym (block_of_lane js i ∙ ap (λ v. get_or v (i % 16) 0) (same (i / 16) inside))) (small (i % 16))))

pub reordered : (b : ℕ) (x ks js : List ℕ) → length ks ≡ 16 → ((k : ℕ) → get_or ks k 0 < 16) → IsRepeated b ks js → length js ≡ b * 16
    → (i : ℕ) → i < b → block (swz_l w8 16 x 0 js) i ≡ pick_l 0 (block x i) ks
reordered b x ks js sixteen small same long i l =
    let r = swz_l w8 16 x 0 js in
    let long_r : length (block r i) ≡ 16 = length-chunk (16 * i) 16 r (omega (arith, long, length-swz_l w8 16 x 0 js)) in
    ext_get_or 0 _ _ (long_r ∙ sym (length-map ks _ ∙ sixteen)) (λ k h.
    let lt : k < 16 = omega (arith, h, long_r) in
    let here : (0 + (16 * i + k)) / 16 ≡ i = omega arith in
    let place = lane_of_repeated b ks js same i k l lt in
    lane_in_block r i k lt
    ∙ get_or-swz_l_below w8 16 x 0 js (16 * i + k) (omega (arith, long)) (subst (λ n. n < 16) (sym place) (small k))
    ∙ ap (λ n. get_or x n 0) (ap (λ n. 16 * n + get_or js (16 * i + k) 0) here ∙ ap (λ n. 16 * i + n) place)
    ∙ sym (lane_in_block x i (get_or ks k 0) (small k))
    ∙ sym (get_or-map (λ n. get_or (block x i) n 0) ks k 0 0 (omega (arith, sixteen))))

-- ---- look-ups in several steps

-- the lanes of js are f of those of x, so the entries are those of f
pub looked : (t : List ℕ) (f : ℕ → ℕ) (x js r : List ℕ) → js ≡ map f x → r ≡ map (entry t) js → r ≡ map (λ v. entry t (f v)) x
looked t f x js r e g = g ∙ ap (map (entry t)) e ∙ map-map (entry t) f x

-- lanes computed from octets by f are places, if it is so for each octet
pub are_places : (f : ℕ → ℕ) → all_below (λ v. is_place (f v)) 256 ≡ true → (x js : List ℕ) → Each1 (Fits w8) x → js ≡ map f x
    → (i : ℕ) → AreInTable (block js i)
are_places f all x js fits e i k h =
    let n = 16 * i + k in
    ap is_place (lane_in_block js i k h ∙ ap (λ l. get_or l n 0) e) ∙ ⊎_elim
    (λ l. ap is_place (get_or-map f x n 0 0 l) ∙ all_below_at (λ v. is_place (f v)) 256 (get_or x n 0) all (lane_fits x n fits))
    (λ l. ap is_place (get_or_past (map f x) n 0 (omega (arith, l, length-map x f))))
    (cases_lt n (length x))

-- ---- what is looked up is a place, for each octet

pub low_in : all_below (λ v. is_place (low_of v)) 256 ≡ true
unfolding all_below
low_in = refl

pub high_in : all_below (λ v. is_place (high_of v)) 256 ≡ true
unfolding all_below
high_in = refl

pub sum_in : all_below (λ v. is_place (sum_of v)) 256 ≡ true
unfolding all_below
sum_in = refl

pub with_i_in : all_below (λ v. is_place (with_i_of v)) 256 ≡ true
unfolding all_below entry with_i_of
with_i_in = refl

pub with_j_in : all_below (λ v. is_place (with_j_of v)) 256 ≡ true
unfolding all_below entry with_j_of
with_j_in = refl

pub p_in : all_below (λ v. is_place (p_of v)) 256 ≡ true
unfolding all_below entry with_i_of p_of
p_in = refl

pub q_in : all_below (λ v. is_place (q_of v)) 256 ≡ true
unfolding all_below entry with_j_of q_of
q_in = refl
