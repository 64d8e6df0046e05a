-- The blocks of vectors as states.
use Rattle.std.proofs.Common.{◌≡◌, ℕ, ◌+◌, ◌*◌, ◌≤◌, ◌<◌, List, map, length, replicate, slice_index, take, drop, bit_xor, sym, ap, ap₂, ◌∙◌, arith, w8, Fits}
use Rattle.std.proofs.lemmas.List.{get_or-map, length-map, take-map, drop-map}
use Rattle.std.proofs.lemmas.Simd.{length-zip2, get_or-zip2, zip2_splat, length-chunk, get_or-chunk, Each1-chunk}
use Rattle.std.specs.Simd.Lanes.{Each1, zip2, chunk}
use Rattle.aes.specs.State.{at, square, word}
use Rattle.aes.specs.Code.Blocks.{block}
use Rattle.aes.proofs.Squares.{at-square, same_square, length-square}
use Rattle.aes.proofs.Places.{lane_fits, lane_in_block}

pub same_squares : (f g : ℕ → ℕ → ℕ) → ((r c : ℕ) → r < 4 → c < 4 → f r c ≡ g r c) → square f ≡ square g
same_squares f g h = same_square f (square g) (length-square g) (λ r c hr hc. h r c hr hc ∙ sym (at-square g r c hr hc))

pub at_map : (f : ℕ → ℕ) (x v : List ℕ) (r c : ℕ) → length x ≡ 16 → r < 4 → c < 4 → v ≡ map f x → at v r c ≡ f (at x r c)
at_map f x v r c long hr hc e = ap (λ l. at l r c) e ∙ get_or-map f x (r + 4 * c) 0 0 (omega (arith, long))

-- ---- the blocks of a vector of n octets

pub block_of_map : (f : ℕ → ℕ) (v w : List ℕ) (i : ℕ) → w ≡ map f v → block w i ≡ map f (block v i)
block_of_map f v w i e = ap (λ l. block l i) e ∙ ap (take 16) (drop-map f (16 * i) v) ∙ take-map f 16 (drop (16 * i) v)

pub block_long : (n : ℕ) (v : List ℕ) (i : ℕ) → length v ≡ n → 16 * i + 16 ≤ n → length (block v i) ≡ 16
block_long n v i long h = length-chunk (16 * i) 16 v (omega (arith, long, h))

pub block_fits : (v : List ℕ) (i : ℕ) → Each1 (Fits w8) v → Each1 (Fits w8) (block v i)
block_fits v i fits = Each1-chunk (Fits w8) (16 * i) 16 v fits

pub sum_is : (n : ℕ) (a b : List ℕ) (i : ℕ) → length a ≡ n → length b ≡ n → 16 * i + 16 ≤ n
    → block (zip2 bit_xor a b) i ≡ square (λ r c. bit_xor (at (block a i) r c) (at (block b i) r c))
sum_is n a b i la lb h =
    let z = zip2 bit_xor a b in
    sym (same_square _ (block z i) (block_long n z i (length-zip2 bit_xor a b (la ∙ sym lb) ∙ la) h) (λ r c hr hc.
    let lane : r + 4 * c < 16 = omega arith in
    ap₂ bit_xor (lane_in_block a i (r + 4 * c) lane) (lane_in_block b i (r + 4 * c) lane)
    ∙ sym (lane_in_block z i (r + 4 * c) lane ∙ get_or-zip2 bit_xor a b (16 * i + (r + 4 * c)) 0 0 0 (omega (arith, la, h)) (omega (arith, lb, h)))))

pub with_constant_is : (n : ℕ) (a : List ℕ) (i k : ℕ) → length a ≡ n → 16 * i + 16 ≤ n
    → block (zip2 bit_xor a (replicate n k)) i ≡ square (λ r c. bit_xor (at (block a i) r c) k)
with_constant_is n a i k long h =
    let z = zip2 bit_xor a (replicate n k) in
    let e = zip2_splat bit_xor a n k long in
    sym (same_square _ (block z i) (block_long n z i (ap length e ∙ length-map a _ ∙ long) h) (λ r c hr hc.
    sym (at_map (λ x. bit_xor x k) (block a i) (block z i) r c (block_long n a i long h) hr hc (block_of_map _ a z i e))))

pub key_is : (w : List ℕ) (m : ℕ) → 16 * m + 16 ≤ length w → chunk (16 * m) 16 w ≡ square (λ r c. word w (4 * m + c) r)
key_is w m h = sym (same_square _ (chunk (16 * m) 16 w) (length-chunk (16 * m) 16 w h) (λ r c hr hc.
    ap (slice_index w) (let e : 4 * (4 * m + c) + r ≡ 16 * m + (r + 4 * c) = omega arith in e) ∙ sym (get_or-chunk (16 * m) 16 w (r + 4 * c) 0 (omega arith))))

pub at_fits : (x : List ℕ) (r c : ℕ) → Each1 (Fits w8) x → at x r c < 256
at_fits x r c h = lane_fits x (r + 4 * c) h
