-- The blocks of CBC and those of its opening determine each other.
use Rattle.std.proofs.Common.{◌≡◌, ◌≢◌, ℕ, zero, suc, ◌+◌, ◌-◌, ◌*◌, ◌/◌, ◌%◌, ◌<◌, ◌≤◌, List, length, take, map, sym, ap, ap₂, subst, ◌∙◌, arith, refl}
use Rattle.std.specs.List.{range_with_len, concat}
use Rattle.aes.specs.Block.{IsBlock, IsCipher}
use Rattle.octets.specs.Octets.{xor_octets, IsOctets}
use Rattle.modes.specs.Cbc.{block, pad, chained, cbc_blocks, cbc}
use Rattle.modes.specs.Code.Opening.{before, opened_block, opened_blocks, IsPadded}
use Rattle.octets.proofs.Lemmas.{same_chunks, length-joined, chunk-joined}
use Rattle.modes.proofs.Blocks.{block_is_block}
use Rattle.modes.proofs.Chaining.{blocks_are, blocks_from}
use Rattle.modes.proofs.Sums.{length-xor, xor_is_block, xor_octets_twice}
use Rattle.modes.proofs.Padding.{length-pad, pad_octets, pad_ends, pad_is_unique, unpadded}

-- The opening of a block depends only on this block and the one before it.
pub opened_same : (d : List ℕ → List ℕ) (iv b c : List ℕ) (i : ℕ) → ((j : ℕ) → j ≤ i → block b j ≡ block c j) → opened_block d iv b i ≡ opened_block d iv c i
unfolding opened_block before
opened_same d iv b c zero same = ap (λ x. xor_octets (d x) iv) (same 0 (omega arith))
opened_same d iv b c (suc i) same = ap₂ (λ x y. xor_octets (d x) y) (same (suc i) (omega arith)) (same i (omega arith))

-- The first block is opened with the IV, and each later one with the block before it.
pub opened_first : (d : List ℕ → List ℕ) (iv c : List ℕ) (i : ℕ) → i ≡ 0 → xor_octets (d (block c i)) iv ≡ opened_block d iv c i
unfolding opened_block before
opened_first d iv c zero e = refl
opened_first d iv c (suc i) e = absurd (omega arith)

pub opened_later : (d : List ℕ → List ℕ) (iv c : List ℕ) (i : ℕ) → i ≢ 0 → xor_octets (d (block c i)) (block c (i - 1)) ≡ opened_block d iv c i
unfolding opened_block before
opened_later d iv c zero e = absurd (e refl)
opened_later d iv c (suc i) e = ap (λ k. xor_octets (d (block c (suc i))) (block c k)) (let s : suc i - 1 ≡ i = omega arith in s)

module _ (e d : List ℕ → List ℕ) (law : IsCipher e d) (iv : List ℕ) (start : IsBlock iv) where
  pub chained_is_block : (q : List ℕ) → IsOctets q → (i : ℕ) → 16 * i ≤ length q → IsBlock (chained e iv q i)
  unfolding chained
  chained_is_block q small zero h = start
  chained_is_block q small (suc i) h =
      law.gives_block _ (xor_is_block (block q i) (chained e iv q i) (block_is_block q i small (omega arith)) (chained_is_block q small i (omega arith)))

  -- ---- from a text to its ciphertext

  module _ (q : List ℕ) (small : IsOctets q) (n : ℕ) (whole : length q ≡ 16 * n) where
    abbrev c : List ℕ
    c = concat (map (chained e iv q) (range_with_len 1 n))

    sixteen : (k : ℕ) → k < n → length (chained e iv q (1 + k)) ≡ 16
    sixteen k l = (chained_is_block q small (1 + k) (omega (arith, whole))).sixteen

    cbc_blocks_is : cbc_blocks e iv q ≡ c
    cbc_blocks_is = blocks_are e iv q n (omega (arith, whole))

    length-c : length c ≡ 16 * n
    length-c = length-joined 16 (chained e iv q) n 1 sixteen

    pub length-cbc_blocks : length (cbc_blocks e iv q) ≡ 16 * n
    length-cbc_blocks = ap length cbc_blocks_is ∙ length-c

    block_of_c : (i : ℕ) → i < n → block c i ≡ chained e iv q (suc i)
    block_of_c i l = chunk-joined 16 (chained e iv q) n 1 i sixteen l ∙ ap (chained e iv q) (let z : 1 + i ≡ suc i = omega arith in z)

    before_c : (i : ℕ) → i < n → before iv c i ≡ chained e iv q i
    unfolding before chained
    before_c zero l = refl
    before_c (suc i) l = block_of_c i (omega arith)

    opened_c : (i : ℕ) → i < n → opened_block d iv c i ≡ block q i
    unfolding opened_block chained
    opened_c i l =
        let x = block_is_block q i small (omega (arith, whole)) in
        let y = chained_is_block q small i (omega (arith, whole)) in
        ap₂ xor_octets (ap d (block_of_c i l) ∙ law.undoes (xor_octets (block q i) (chained e iv q i)) (xor_is_block (block q i) (chained e iv q i) x y))
        (before_c i l)
        ∙ xor_octets_twice (block q i) (chained e iv q i)

    pub opens_to : (i : ℕ) → i < n → opened_block d iv (cbc_blocks e iv q) i ≡ block q i
    opens_to i l = ap (λ s. opened_block d iv s i) cbc_blocks_is ∙ opened_c i l

  -- ---- from a ciphertext to its text

  module _ (c : List ℕ) (small : IsOctets c) (n : ℕ) (whole : length c ≡ 16 * n) where
    opened_sixteen : (i : ℕ) → i < n → length (opened_block d iv c i) ≡ 16
    unfolding opened_block
    opened_sixteen i l = length-xor (d (block c i)) (before iv c i)
        ∙ (law.gives_block_back (block c i) (block_is_block c i small (omega (arith, whole)))).sixteen

    module _ (q : List ℕ) (same_length : length q ≡ 16 * n) (opened : (i : ℕ) → i < n → block q i ≡ opened_block d iv c i) where
      link : (i : ℕ) → i < n → chained e iv q i ≡ before iv c i → chained e iv q (suc i) ≡ block c i
      unfolding chained opened_block
      link i l same =
          let x = block_is_block c i small (omega (arith, whole)) in
          ap e (ap₂ xor_octets (opened i l) same ∙ xor_octets_twice (d (block c i)) (before iv c i))
          ∙ law.mirror (block c i) x

      comes_before : (i : ℕ) → i < n → chained e iv q i ≡ before iv c i
      unfolding chained before
      comes_before zero l = refl
      comes_before (suc i) l = link i (omega arith) (comes_before i (omega arith))

      pub encrypts_back : cbc_blocks e iv q ≡ c
      encrypts_back = sym (blocks_from e iv q c n (omega (arith, same_length)) whole (λ i l. sym (link i l (comes_before i l))))

    opened_are : opened_blocks d iv c ≡ concat (map (opened_block d iv c) (range_with_len 0 n))
    unfolding opened_blocks
    opened_are = ap (λ k. concat (map (opened_block d iv c) (range_with_len 0 k))) (let z : length c / 16 ≡ n = omega (arith, whole) in z)

    pub length-opened : length (opened_blocks d iv c) ≡ 16 * n
    length-opened = ap length opened_are ∙ length-joined 16 (opened_block d iv c) n 0 (λ i l. opened_sixteen (0 + i) (omega arith))

    pub block_of_opened : (i : ℕ) → i < n → block (opened_blocks d iv c) i ≡ opened_block d iv c i
    block_of_opened i l =
        ap (λ s. block s i) opened_are
        ∙ chunk-joined 16 (opened_block d iv c) n 0 i (λ i l. opened_sixteen (0 + i) (omega arith)) l
        ∙ ap (opened_block d iv c) (let z : 0 + i ≡ i = omega arith in z)

  -- ---- with padding

  module _ (p : List ℕ) (small : IsOctets p) where
    pub length-cbc : length (cbc e iv p) ≡ 16 * suc (length p / 16)
    unfolding cbc
    length-cbc = length-cbc_blocks (pad p) (pad_octets p small) (suc (length p / 16)) (length-pad p)

    opened_cbc : (i : ℕ) → i < suc (length p / 16) → opened_block d iv (cbc e iv p) i ≡ block (pad p) i
    unfolding cbc
    opened_cbc = opens_to (pad p) (pad_octets p small) (suc (length p / 16)) (length-pad p)

    -- The last block of a ciphertext opens to a block that ends in padding.
    pub last_is_padded : IsPadded (opened_block d iv (cbc e iv p) (length (cbc e iv p) / 16 - 1)) (16 - length p % 16)
    last_is_padded =
        subst (λ b. IsPadded b (16 - length p % 16))
        (sym (ap (opened_block d iv (cbc e iv p)) (let z : length (cbc e iv p) / 16 - 1 ≡ length p / 16 = omega (arith, length-cbc) in z)
        ∙ opened_cbc (length p / 16) (omega arith)))
        (pad_ends p)

  pub one_plaintext : (p q : List ℕ) → IsOctets p → IsOctets q → cbc e iv p ≡ cbc e iv q → p ≡ q
  one_plaintext p q x y same =
      let count : length p / 16 ≡ length q / 16 = omega (arith, ap length same, length-cbc p x, length-cbc q y) in
      pad_is_unique p q (same_chunks 16 (suc (length p / 16)) (pad p) (pad q) (length-pad p) (length-pad q ∙ ap (λ k. 16 * suc k) (sym count))
      (λ i l. sym (opened_cbc p x i l) ∙ ap (λ s. opened_block d iv s i) same ∙ opened_cbc q y i (subst (λ k. i < suc k) count l)))

  -- If the last block of a ciphertext opens to a block that ends in padding, all blocks open to the padded form of the text without this
  -- padding, and the ciphertext is that of this text.
  module _ (c : List ℕ) (v : ℕ) (small : IsOctets c) (some : length c / 16 ≢ 0) (whole : length c % 16 ≡ 0)
      (padded : IsPadded (opened_block d iv c (length c / 16 - 1)) v) where
    abbrev q : List ℕ
    q = opened_blocks d iv c

    all : length c ≡ 16 * (length c / 16)
    all = omega (arith, whole)

    len : length q ≡ 16 * (length c / 16)
    len = length-opened c small (length c / 16) all

    text : pad (take (length q - v) q) ≡ q
    text =
        let last : length c / 16 - 1 < length c / 16 = omega (arith, some) in
        unpadded q (length c / 16 - 1) v (omega (arith, len, some))
        (subst (λ b. IsPadded b v) (sym (block_of_opened c small (length c / 16) all (length c / 16 - 1) last)) padded)

    pub opens_padded : opened_blocks d iv c ≡ pad (take (length c - v) (opened_blocks d iv c))
    opens_padded = sym text ∙ ap (λ k. pad (take k q)) (let z : length q - v ≡ length c - v = omega (arith, all, len) in z)

    pub opens : cbc e iv (take (length c - v) (opened_blocks d iv c)) ≡ c
    unfolding cbc
    opens =
        ap (cbc_blocks e iv) (sym opens_padded)
        ∙ encrypts_back c small (length c / 16) all q len (block_of_opened c small (length c / 16) all)
