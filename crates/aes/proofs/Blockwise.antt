-- A list of blocks whose first n blocks are replaced.
use Rattle.std.proofs.Common.{◌≡◌, ◌≢◌, ℕ, ◌+◌, ◌*◌, ◌<◌, ◌≤◌, List, length, sym, ap, ◌∙◌, arith, ⊎_elim}
use Rattle.std.proofs.lemmas.Bool.{cases_eq}
use Rattle.aes.specs.Code.Blocks.{block, IsBlockwise}

-- q is p with f made of each of its first n blocks
pub record Done (f : List ℕ → List ℕ) (p q : List ℕ) (n : ℕ) : Type 0 where
  pub done : (k : ℕ) → k < n → block q k ≡ f (block p k)
  pub rest : (k : ℕ) → n ≤ k → block q k ≡ block p k

-- block n of q is overwritten
pub one_more : (f : List ℕ → List ℕ) (p q r b : List ℕ) (n m : ℕ) → Done f p q n → b ≡ f (block p n) → block r n ≡ b → ((j : ℕ) → j ≢ n → block r j ≡ block q j)
    → m ≡ n + 1 → Done f p r m
one_more f p q r b n m d is there others e = record {
  done = λ k h. ⊎_elim
      (λ s. ap (block r) s ∙ there ∙ is ∙ ap (λ i. f (block p i)) (sym s))
      (λ ne. others k ne ∙ d.done k (omega (arith, h, ne, e)))
      (cases_eq k n);
  rest = λ k h. others k (λ s. absurd (omega (arith, h, s, e))) ∙ d.rest k (omega (arith, h, e));
}

pub blockwise : (f : List ℕ → List ℕ) (p q : List ℕ) (n : ℕ) → Done f p q n → length p ≤ 16 * n + 15 → IsBlockwise f p q
blockwise f p q n d all i h = d.done i (omega (arith, h, all))
