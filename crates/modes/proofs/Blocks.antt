-- Blocks of octets, and joined lists.
use Rattle.std.proofs.Common.{◌≡◌, ℕ, zero, suc, ◌+◌, ◌*◌, ◌<◌, ◌≤◌, List, ◌++◌, length, map, sym, ap, ap₂, ◌∙◌, arith, refl, append_assoc}
use Rattle.std.specs.List.{range_with_len, concat}
use Rattle.aes.specs.Block.{IsBlock}
use Rattle.octets.specs.Octets.{IsOctets}
use Rattle.octets.proofs.Lemmas.{length-chunk, chunk_octets}
use Rattle.modes.specs.Cbc.{block}

pub block_is_block : (p : List ℕ) (i : ℕ) → IsOctets p → 16 * i + 16 ≤ length p → IsBlock (block p i)
block_is_block p i o h = record { sixteen = length-chunk 16 p i h; octets = chunk_octets 16 p i o }

-- ---- n + k joined lists, and as many other lists that are the same

module _ (f : ℕ → List ℕ) where
  pub joined-add : (n k a : ℕ) → concat (map f (range_with_len a (n + k))) ≡ concat (map f (range_with_len a n)) ++ concat (map f (range_with_len (a + n) k))
  joined-add zero k a = ap₂ (λ b m. concat (map f (range_with_len b m))) (let e : a ≡ a + 0 = omega arith in e) (let e : 0 + k ≡ k = omega arith in e)
  joined-add (suc n) k a =
      ap (λ m. concat (map f (range_with_len a m))) (let e : suc n + k ≡ suc (n + k) = omega arith in e)
      ∙ ap (λ t. f a ++ t) (joined-add n k (a + 1) ∙ ap (λ b. concat (map f (range_with_len (a + 1) n)) ++ concat (map f (range_with_len b k)))
      (let e : a + 1 + n ≡ a + suc n = omega arith in e))
      ∙ sym (append_assoc (f a) (concat (map f (range_with_len (a + 1) n))) (concat (map f (range_with_len (a + suc n) k))))

pub joined-same : (f g : ℕ → List ℕ) (n a b : ℕ) → ((i : ℕ) → i < n → f (a + i) ≡ g (b + i))
    → concat (map f (range_with_len a n)) ≡ concat (map g (range_with_len b n))
joined-same f g zero a b h = refl
joined-same f g (suc n) a b h =
    ap₂ (λ s t. s ++ t)
    (ap f (let e : a ≡ a + 0 = omega arith in e) ∙ h 0 (omega arith) ∙ ap g (let e : b + 0 ≡ b = omega arith in e))
    (joined-same f g n (a + 1) (b + 1) (λ i l.
    ap f (let e : a + 1 + i ≡ a + (i + 1) = omega arith in e)
    ∙ h (i + 1) (omega arith)
    ∙ ap g (let e : b + (i + 1) ≡ b + 1 + i = omega arith in e)))
