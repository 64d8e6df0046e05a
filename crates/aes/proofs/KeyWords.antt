-- The key words, octet by octet.
use Rattle.std.proofs.Common.{◌≡◌, ℕ, zero, suc, ◌+◌, ◌-◌, ◌*◌, ◌/◌, ◌%◌, ◌<◌, ◌≤◌, ◌==◌, ◌&&◌, nat_lt, Bool, true, false, cond, List, [], ◌∷◌, ◌++◌, length, slice_index, bit_xor, refl, sym, ap, ap₂, subst, ◌∙◌, arith, ⊎_elim, length-append}
use Rattle.std.proofs.lemmas.Bool.{cases_lt}
use Rattle.std.proofs.lemmas.List.{get_or_append_left}
use Rattle.std.proofs.Math.Seq.{get_or-append_right}
use Rattle.aes.specs.SBox.{s_box}
use Rattle.aes.specs.State.{word}
use Rattle.aes.specs.KeyExpansion.{power_of_x, rcon, transformed, next_word, key_words, key_expansion}
use Rattle.aes.proofs.Xor.{xor_lt}
use Rattle.aes.proofs.Products.{octet_product-lt}
use Rattle.aes.proofs.Boxes.{s_box-lt}

-- What is made of a word depends only on its four octets.
pub transformed-same : (nk i : ℕ) (a b : ℕ → ℕ) (r : ℕ) → r < 4 → ((s : ℕ) → s < 4 → a s ≡ b s) → transformed nk i a r ≡ transformed nk i b r
transformed-same nk i a b r h same =
    ap₂ (λ s t. cond (i % nk == 0) (bit_xor (s_box s) (rcon (i / nk) r)) (cond (nat_lt 6 nk && (i % nk == 4)) (s_box t) t))
    (same ((r + 1) % 4) (omega arith)) (same r h)

-- Word i depends only on the octets before it.
pub next_word-same : (nk : ℕ) (v w : List ℕ) (i r : ℕ) → 0 < nk → nk ≤ i → r < 4 → ((p : ℕ) → p < 4 * i → slice_index v p ≡ slice_index w p)
    → next_word nk v i r ≡ next_word nk w i r
next_word-same nk v w i r pos h l same =
    ap₂ bit_xor (same (4 * (i - nk) + r) (omega arith))
    (transformed-same nk i (word v (i - 1)) (word w (i - 1)) r l (λ s m. same (4 * (i - 1) + s) (omega arith)))

module _ (nk : ℕ) (k : List ℕ) (pos : 0 < nk) (size : length k ≡ 4 * nk) where
  length-key_words : (n : ℕ) → length (key_words nk k n) ≡ 4 * (nk + n)
  unfolding key_words
  length-key_words zero = size ∙ omega arith
  length-key_words (suc n) = length-append (key_words nk k n) _ ∙ ap (λ m. m + 4) (length-key_words n) ∙ omega arith

  key_words-front : (n p : ℕ) → p < 4 * nk → slice_index (key_words nk k n) p ≡ slice_index k p
  unfolding key_words
  key_words-front zero p h = refl
  key_words-front (suc n) p h = get_or_append_left (key_words nk k n) _ 0 p (omega (arith, length-key_words n)) ∙ key_words-front n p h

  -- Each word after those of the key is computed from the words before it.
  key_words-next : (n i r : ℕ) → nk ≤ i → i < nk + n → r < 4 → word (key_words nk k n) i r ≡ next_word nk (key_words nk k n) i r
  unfolding key_words
  key_words-next zero i r h l m = absurd (omega arith)
  key_words-next (suc n) i r h l m = ⊎_elim (λ b. before b (key_words-next n i r h b m)) last (cases_lt i (nk + n))
    where
      w : List ℕ
      w = key_words nk k n

      more : List ℕ
      more = next_word nk w (nk + n) 0 ∷ next_word nk w (nk + n) 1 ∷ next_word nk w (nk + n) 2 ∷ next_word nk w (nk + n) 3 ∷ []

      same : next_word nk w i r ≡ next_word nk (w ++ more) i r
      same = next_word-same nk w (w ++ more) i r pos h m (λ p q. sym (get_or_append_left w more 0 p (omega (arith, length-key_words n))))

      before : i < nk + n → word w i r ≡ next_word nk w i r → word (w ++ more) i r ≡ next_word nk (w ++ more) i r
      before b e = get_or_append_left w more 0 (4 * i + r) (omega (arith, length-key_words n)) ∙ e ∙ same

      at_last : (s : ℕ) → s < 4 → slice_index more s ≡ next_word nk w (nk + n) s
      at_last zero q = refl
      at_last (suc zero) q = refl
      at_last (suc (suc zero)) q = refl
      at_last (suc (suc (suc zero))) q = refl
      at_last (suc (suc (suc (suc s)))) q = absurd (omega arith)

      last : nk + n ≤ i → word (w ++ more) i r ≡ next_word nk (w ++ more) i r
      last b =
          let e : nk + n ≡ i = omega arith in
          get_or-append_right w more (4 * i + r) 0 (omega (arith, length-key_words n))
          ∙ ap (slice_index more) (let q : 4 * i + r - length w ≡ r = omega (arith, length-key_words n) in q)
          ∙ at_last r m
          ∙ ap (λ j. next_word nk w j r) e
          ∙ same

  pub length-key_expansion : length (key_expansion nk k) ≡ 16 * (nk + 7)
  unfolding key_expansion
  length-key_expansion = length-key_words (3 * nk + 28) ∙ omega arith

  pub key_octet : (p : ℕ) → p < length k → slice_index k p ≡ slice_index (key_expansion nk k) p
  unfolding key_expansion
  key_octet p h = sym (key_words-front (3 * nk + 28) p (omega arith))

  -- The word at place i is computed from any list with the same octets before it.
  pub next_key_word : (v : List ℕ) (i r : ℕ) → nk ≤ i → i < 4 * (nk + 7) → r < 4 → ((q : ℕ) → q < 4 * i → slice_index v q ≡ slice_index (key_expansion nk k) q)
      → next_word nk v i r ≡ word (key_expansion nk k) i r
  unfolding key_expansion
  next_key_word v i r h l m same =
      next_word-same nk v (key_words nk k (3 * nk + 28)) i r pos h m same
      ∙ sym (key_words-next (3 * nk + 28) i r h (omega arith) m)

-- ---- key words are octets

cond-lt : (b : Bool) (x y : ℕ) → x < 256 → y < 256 → cond b x y < 256
cond-lt true x y h k = h
cond-lt false x y h k = k

power_of_x-lt : (j : ℕ) → power_of_x j < 256
unfolding power_of_x
power_of_x-lt zero = omega arith
power_of_x-lt (suc j) = octet_product-lt 2 (power_of_x j) (power_of_x-lt j)

next_word-lt : (nk : ℕ) (w : List ℕ) (i r : ℕ) → ((p : ℕ) → slice_index w p < 256) → next_word nk w i r < 256
next_word-lt nk w i r small =
    let turned = s_box-lt (word w (i - 1) ((r + 1) % 4)) in
    let constant = cond-lt (r == 0) (power_of_x (i / nk - 1)) 0 (power_of_x-lt (i / nk - 1)) (omega arith) in
    xor_lt 8 _ _ (small (4 * (i - nk) + r))
    (cond-lt (i % nk == 0) _ _ (xor_lt 8 _ _ turned constant)
    (cond-lt (nat_lt 6 nk && (i % nk == 4)) _ _ (s_box-lt (word w (i - 1) r)) (small (4 * (i - 1) + r))))

key_words-lt : (nk : ℕ) (k : List ℕ) → ((p : ℕ) → slice_index k p < 256) → (n p : ℕ) → slice_index (key_words nk k n) p < 256
unfolding key_words
key_words-lt nk k small zero p = small p
key_words-lt nk k small (suc n) p = joined (key_words nk k n) (key_words-lt nk k small n)
  where
    joined : (w : List ℕ) → ((q : ℕ) → slice_index w q < 256)
        → slice_index (w ++ next_word nk w (nk + n) 0 ∷ next_word nk w (nk + n) 1 ∷ next_word nk w (nk + n) 2 ∷ next_word nk w (nk + n) 3 ∷ []) p < 256
    joined w h = ⊎_elim
        (λ b. subst (λ x. x < 256) (sym (get_or_append_left w _ 0 p b)) (h p))
        (λ b. subst (λ x. x < 256) (sym (get_or-append_right w _ p 0 b)) (in_more w h (p - length w)))
        (cases_lt p (length w))
      where
        in_more : (w : List ℕ) → ((q : ℕ) → slice_index w q < 256) → (s : ℕ)
            → slice_index (next_word nk w (nk + n) 0 ∷ next_word nk w (nk + n) 1 ∷ next_word nk w (nk + n) 2 ∷ next_word nk w (nk + n) 3 ∷ []) s < 256
        in_more w h zero = next_word-lt nk w (nk + n) 0 h
        in_more w h (suc zero) = next_word-lt nk w (nk + n) 1 h
        in_more w h (suc (suc zero)) = next_word-lt nk w (nk + n) 2 h
        in_more w h (suc (suc (suc zero))) = next_word-lt nk w (nk + n) 3 h
        in_more w h (suc (suc (suc (suc s)))) = omega arith

pub key_expansion-lt : (nk : ℕ) (k w : List ℕ) → w ≡ key_expansion nk k → ((p : ℕ) → slice_index k p < 256) → (p : ℕ) → slice_index w p < 256
unfolding key_expansion
key_expansion-lt nk k w e small p = subst (λ w. slice_index w p < 256) (sym e) (key_words-lt nk k small (3 * nk + 28) p)
