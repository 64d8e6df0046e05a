-- Chaining over a text that comes in pieces.
use Rattle.std.proofs.Common.{◌≡◌, ℕ, zero, suc, ◌+◌, ◌*◌, ◌/◌, ◌<◌, ◌≤◌, List, [], ◌++◌, length, drop, map, bit_xor, sym, ap, ap₂, ◌∙◌, arith, refl, length-append, length-drop}
use Rattle.std.specs.List.{range_with_len, concat}
use Rattle.std.specs.Simd.Lanes.{zip2}
use Rattle.std.proofs.lemmas.List.{length-take-le}
use Rattle.octets.specs.Octets.{xor_octets}
use Rattle.modes.specs.Cbc.{block, chained, cbc_blocks}
use Rattle.octets.proofs.Lemmas.{chunk_front, chunk_back, chunks_joined}
use Rattle.modes.proofs.Blocks.{joined-add, joined-same}
use Rattle.modes.proofs.Sums.{xor_turned, xor_zipped}

pub blocks_are : (e : List ℕ → List ℕ) (iv p : List ℕ) (n : ℕ) → length p / 16 ≡ n → cbc_blocks e iv p ≡ concat (map (chained e iv p) (range_with_len 1 n))
unfolding cbc_blocks
blocks_are e iv p n h = ap (λ k. concat (map (chained e iv p) (range_with_len 1 k))) h

pub none_alone : (e : List ℕ → List ℕ) (iv w : List ℕ) → length w < 16 → cbc_blocks e iv w ≡ []
none_alone e iv w h = blocks_are e iv w 0 (omega arith)

-- A list is the ciphertext if each of its blocks is.
pub blocks_from : (e : List ℕ → List ℕ) (iv p c : List ℕ) (n : ℕ) → length p / 16 ≡ n → length c ≡ 16 * n
    → ((i : ℕ) → i < n → block c i ≡ chained e iv p (suc i)) → c ≡ cbc_blocks e iv p
blocks_from e iv p c n h k same =
    sym (blocks_are e iv p n h ∙ chunks_joined 16 (chained e iv p) n 1 c k (λ i l. same i l ∙ ap (chained e iv p) (let z : suc i ≡ 1 + i = omega arith in z)))

-- One more block is added as in the code.
pub chained_more : (e : List ℕ → List ℕ) (iv p previous : List ℕ) (i : ℕ) → previous ≡ chained e iv p i → length previous ≡ 16 → 16 * i + 16 ≤ length p
    → e (zip2 bit_xor previous (block p i)) ≡ chained e iv p (suc i)
unfolding chained
chained_more e iv p previous i is long room =
    let same : length previous ≡ length (block p i) = long ∙ sym (length-take-le 16 (drop (16 * i) p) (omega (arith, length-drop (16 * i) p))) in
    ap e (xor_zipped previous (block p i) same ∙ xor_turned previous (block p i) same ∙ ap (xor_octets (block p i)) is)

-- ---- after whole blocks, chaining goes on from the last block of their ciphertext

module _ (e : List ℕ → List ℕ) (iv m : List ℕ) (n : ℕ) (whole : length m ≡ 16 * n) (q : List ℕ) where
  pub chained_front : (i : ℕ) → i ≤ n → chained e iv (m ++ q) i ≡ chained e iv m i
  unfolding chained
  chained_front zero h = refl
  chained_front (suc i) h = ap e (ap₂ xor_octets (chunk_front 16 m q i (omega (arith, whole))) (chained_front i (omega arith)))

  pub chained_back : (i : ℕ) → chained e iv (m ++ q) (n + i) ≡ chained e (chained e iv m n) q i
  unfolding chained
  chained_back zero = ap (chained e iv (m ++ q)) (let z : n + 0 ≡ n = omega arith in z) ∙ chained_front n (omega arith)
  chained_back (suc i) =
      ap (chained e iv (m ++ q)) (let z : n + suc i ≡ suc (n + i) = omega arith in z)
      ∙ ap e (ap₂ xor_octets (chunk_back 16 m q n i whole) (chained_back i))

  pub blocks_behind : cbc_blocks e iv (m ++ q) ≡ cbc_blocks e iv m ++ cbc_blocks e (chained e iv m n) q
  blocks_behind =
      let f = chained e iv (m ++ q) in
      let g = chained e (chained e iv m n) q in
      let k = length q / 16 in
      blocks_are e iv (m ++ q) (n + k) (omega (arith, length-append m q, whole))
      ∙ joined-add f n k 1
      ∙ ap₂ (λ s t. s ++ t)
      (joined-same f (chained e iv m) n 1 1 (λ i l. chained_front (1 + i) (omega arith)) ∙ sym (blocks_are e iv m n (omega (arith, whole))))
      (joined-same f g k (1 + n) 1 (λ i l. ap f (let z : 1 + n + i ≡ n + (1 + i) = omega arith in z) ∙ chained_back (1 + i))
      ∙ sym (blocks_are e (chained e iv m n) q k refl))
