-- Ciphertexts and tags are octets.
use Rattle.std.proofs.Common.{◌≡◌, ℕ, zero, suc, ◌+◌, ◌/◌, ◌%◌, ◌^◌, ◌<◌, List, [], ◌∷◌, length, take, drop, map, w32, refl, sym, subst, ◌∙◌, arith, rules, length-append, ⊎_elim}
use Rattle.std.specs.Int.{Width, w128, byte_len, byte_at, bytes_high_first, from_be_bytes, to_be_bytes}
use Rattle.std.specs.List.{range_with_len, concat}
use Rattle.std.proofs.lemmas.Bool.{cases_lt}
use Rattle.std.proofs.lemmas.List.{get_or_past, length-take-le}
use Rattle.std.proofs.lemmas.Nat.{xor_lt}
use Rattle.aes.specs.Block.{IsBlock, IsCipher}
use Rattle.octets.specs.Octets.{IsOctets}
use Rattle.octets.proofs.Lemmas.{IsOctets-nil, first_or, IsOctets-append, IsOctets-take}
use Rattle.modes.specs.Cbc.{pad, chained, cbc_blocks, cbc}
use Rattle.modes.specs.Ctr.{counter_block, ctr}
use Rattle.modes.specs.Gcm.{pre_counter_block, gcm_hash, gcm_ciphertext, gcm_tag}
use Rattle.modes.specs.Ghash.{ghash, ghash_number, numbers}
use Rattle.modes.proofs.Counting.{length-ctr, octet-ctr}
use Rattle.modes.proofs.Opening.{chained_is_block}
use Rattle.modes.proofs.Padding.{pad_octets}
use Rattle.modes.proofs.Sums.{xor_is_block}

-- Joined lists of octets are octets.
pub joined_octets : (f : ℕ → List ℕ) (n a : ℕ) → ((k : ℕ) → k < n → IsOctets (f (a + k))) → IsOctets (concat (map f (range_with_len a n)))
joined_octets f zero a h = IsOctets-nil
joined_octets f (suc n) a h =
    let start : a + 0 ≡ a = omega arith in
    IsOctets-append (f a) (concat (map f (range_with_len (a + 1) n))) (subst (λ k. IsOctets (f k)) start (h 0 (omega arith)))
    (joined_octets f n (a + 1) (λ k l. subst (λ m. IsOctets (f m)) (let e : a + (k + 1) ≡ a + 1 + k = omega arith in e) (h (k + 1) (omega arith))))

-- The bytes of a number are octets.
bytes_octets : (w : Width) (n : ℕ) → IsOctets (to_be_bytes w n)
bytes_octets w n = high_first (byte_len w) n
  where
    at : (i n : ℕ) → byte_at i n < 256
    at zero n = omega arith
    at (suc i) n = omega arith

    high_first : (k n : ℕ) → IsOctets (bytes_high_first k n)
    high_first zero n = IsOctets-nil
    high_first (suc k) n = first_or (byte_at k n) (bytes_high_first k n) (at k n) (high_first k n)

-- The ciphertext of CBC is octets.
pub cbc_octets : (e d : List ℕ → List ℕ) → IsCipher e d → (iv : List ℕ) → IsBlock iv → (p : List ℕ) → IsOctets p → IsOctets (cbc e iv p)
unfolding cbc cbc_blocks
cbc_octets e d law iv start p octets =
    joined_octets (chained e iv (pad p)) (length (pad p) / 16) 1
    (λ k l. (chained_is_block e d law iv start (pad p) (pad_octets p octets) (1 + k) (omega arith)).octets)

-- A counter block is a block.
counter_is_block : (f : List ℕ) (n : ℕ) → IsBlock f → IsBlock (counter_block f n)
unfolding counter_block
counter_is_block f n b =
    let m = (from_be_bytes w32 (drop 12 f) + n) % 2 ^ 32 in
    record {
      sixteen = length-append (take 12 f) (to_be_bytes w32 m) ∙ omega (arith, length-take-le 12 f (omega (arith, b.sixteen)));
      octets = IsOctets-append (take 12 f) (to_be_bytes w32 m) (IsOctets-take 12 f b.octets) (bytes_octets w32 m);
    }

-- The counter block before the first one is a block.
pre_counter_is_block : (iv : List ℕ) → length iv ≡ 12 → IsOctets iv → IsBlock (pre_counter_block iv)
pre_counter_is_block iv twelve octets = record {
  sixteen = length-append iv (0 ∷ 0 ∷ 0 ∷ 1 ∷ []) ∙ omega (arith, twelve);
  octets = IsOctets-append iv (0 ∷ 0 ∷ 0 ∷ 1 ∷ []) octets (λ i. search rules);
}

-- The ciphertext of counter mode is octets.
ctr_octets : (e : List ℕ → List ℕ) (f p : List ℕ) → ((n : ℕ) → IsBlock (e (counter_block f n))) → IsOctets p → IsOctets (ctr e f p)
ctr_octets e f p blocks octets i = ⊎_elim
    (λ (l : i < length (ctr e f p)).
    subst (λ v. v < 256) (sym (octet-ctr e f [] [] p i (subst (λ n. i < n) (length-ctr e f [] [] p) l)))
    (xor_lt 8 _ _ (octets i) ((blocks (i / 16)).octets (i % 16))))
    (λ l. subst (λ v. v < 256) (sym (get_or_past (ctr e f p) i 0 l)) (let z : 0 < 256 = omega arith in z))
    (cases_lt i (length (ctr e f p)))

-- The ciphertext of GCM is octets.
pub gcm_ciphertext_octets : (e d : List ℕ → List ℕ) → IsCipher e d → (iv p : List ℕ) → length iv ≡ 12 → IsOctets iv → IsOctets p
    → IsOctets (gcm_ciphertext e iv p)
unfolding gcm_ciphertext
gcm_ciphertext_octets e d law iv p twelve start octets =
    let f = counter_block (pre_counter_block iv) 1 in
    ctr_octets e f p (λ n. law.gives_block _ (counter_is_block f n (counter_is_block (pre_counter_block iv) 1 (pre_counter_is_block iv twelve start)))) octets

-- A hash is a block.
hash_is_block : (h x : List ℕ) → IsBlock (ghash h x)
unfolding ghash
hash_is_block h x = record { sixteen = refl; octets = bytes_octets w128 (ghash_number (from_be_bytes w128 h) (numbers x)) }

-- The tag of GCM is octets.
pub gcm_tag_octets : (e d : List ℕ → List ℕ) → IsCipher e d → (iv aad c : List ℕ) → length iv ≡ 12 → IsOctets iv → IsOctets (gcm_tag e iv aad c)
unfolding gcm_tag
gcm_tag_octets e d law iv aad c twelve start =
    (xor_is_block (gcm_hash e aad c) (e (pre_counter_block iv)) (hash_is_block _ _) (law.gives_block _ (pre_counter_is_block iv twelve start))).octets
