-- The iterates of a block and their sum, one by one, and the blocks of a derived key.
use Rattle.std.proofs.Common.{◌≡◌, ℕ, zero, suc, ◌+◌, ◌*◌, ◌-◌, ◌<◌, ◌≤◌, List, [], ◌∷◌, ◌++◌, length, get_or, take, map, fold, refl, sym, ap, ◌∙◌, arith, append-nil, add-one}
use Rattle.std.specs.Borrow.{Bor}
use Rattle.std.specs.Int.{div_ceil}
use Rattle.std.specs.List.{range_with_len, concat}
use Rattle.std.proofs.lemmas.Grind.{div_ceil_times}
use Rattle.std.proofs.lemmas.List.{take-take}
use Rattle.std.proofs.lemmas.List.Folds.{concat-append}
use Rattle.std.proofs.lemmas.List.Sums.{fold-append}
use Rattle.std.proofs.lemmas.List.FromFn.{map-range_with_len_more}
use Rattle.octets.specs.Octets.{xor_octets}
use Rattle.prf.specs.HashFunction.{HashFunction}
use Rattle.prf.specs.Hmac.{hmac}
use Rattle.prf.specs.Pbkdf2.{first_text, iterate, derived_block, pbkdf2}

-- The two parts of a salt are joined.
pub both_parts : (parts : List (Bor (List ℕ))) (d : Bor (List ℕ)) → length parts ≡ 2
    → concat (map (λ part. part.now) parts) ≡ (get_or parts 0 d).now ++ (get_or parts 1 d).now
both_parts [] d h = absurd (omega arith)
both_parts (x ∷ []) d h = absurd (omega arith)
both_parts (x ∷ y ∷ []) d h = ap (λ l. x.now ++ l) (append-nil y.now)
both_parts (x ∷ y ∷ z ∷ rest) d h = absurd (omega arith)

-- The first iterate is the HMAC of the first text.
pub iterate-one : (f : HashFunction) (password salt : List ℕ) (i : ℕ) → iterate f password salt i 1 ≡ hmac f password (first_text salt i)
unfolding iterate
iterate-one f password salt i = refl

-- Each later iterate is the HMAC of the one before it.
pub iterate-more : (f : HashFunction) (password salt : List ℕ) (i j : ℕ) → iterate f password salt i (j + 1) ≡ hmac f password (iterate f password salt i j)
unfolding iterate
iterate-more f password salt i j = rw add-one refl

-- The sum of one iterate is this iterate.
pub derived_block-one : (f : HashFunction) (password salt : List ℕ) (i : ℕ) → derived_block f password salt 1 i ≡ iterate f password salt i 1
unfolding derived_block
derived_block-one f password salt i = refl

-- One more iterate is added to the sum.
pub derived_block-more : (f : HashFunction) (password salt : List ℕ) (i j : ℕ) → 1 ≤ j
    → xor_octets (derived_block f password salt j i) (iterate f password salt i (j + 1)) ≡ derived_block f password salt (j + 1) i
unfolding derived_block
derived_block-more f password salt i j h =
    let u = iterate f password salt i in
    let more : map u (range_with_len 2 (j - 1 + 1)) ≡ map u (range_with_len 2 (j - 1)) ++ u (j + 1) ∷ [] =
    map-range_with_len_more u 2 (j - 1) (j + 1) (omega arith) in
    let e : j + 1 - 1 ≡ j - 1 + 1 = omega arith in
    sym (ap (λ n. fold xor_octets (u 1) (map u (range_with_len 2 n))) e ∙ ap (fold xor_octets (u 1)) more
    ∙ fold-append xor_octets (u 1) (map u (range_with_len 2 (j - 1))) (u (j + 1) ∷ []))

-- One more block is appended.
pub blocks-more : (t : ℕ → List ℕ) (i : ℕ) → concat (map t (range_with_len 1 (i + 1))) ≡ concat (map t (range_with_len 1 i)) ++ t (i + 1)
blocks-more t i =
    ap concat (map-range_with_len_more t 1 i (i + 1) (omega arith)) ∙ concat-append (map t (range_with_len 1 i)) (t (i + 1) ∷ [])
    ∙ ap (λ l. concat (map t (range_with_len 1 i)) ++ l) (append-nil (t (i + 1)))

-- If whole blocks were derived, the key is their first n octets.
pub key_of_blocks : (f : HashFunction) (password salt : List ℕ) (c n len i : ℕ) (blocks : List ℕ) → len ≡ f.output_len → 0 < f.output_len → i ≡ div_ceil n len
    → take (i * len) blocks ≡ concat (map (derived_block f password salt c) (range_with_len 1 i)) → take n blocks ≡ pbkdf2 f password salt c n
unfolding pbkdf2
key_of_blocks f password salt c n len i blocks e some is h =
    let enough : n ≤ i * len = omega (arith, (div_ceil_times n len (omega arith)).0, ap (λ m. m * len) is) in
    let t = derived_block f password salt c in
    sym (take-take n (i * len) blocks enough) ∙ ap (take n) h ∙ ap (λ m. take n (concat (map t (range_with_len 1 m)))) (is ∙ ap (div_ceil n) e)

-- A key of some octets that has no more than a block is derived from one block.
one_block : (n len : ℕ) → 0 < n → n ≤ len → div_ceil n len ≡ 1
one_block n len some fits =
    let few = div_ceil_times n len (omega arith) in
    let least : 0 < div_ceil n len = grind (arith, few.0) in
    let most : div_ceil n len < 2 = grind (arith, few.1) in
    omega (arith, least, most)

-- If the first block was derived, a key that has no more than a block is its first n octets.
pub key_of_one_block : (f : HashFunction) (password salt : List ℕ) (c n : ℕ) (block : List ℕ) → n ≤ f.output_len
    → block ≡ derived_block f password salt c 1 → take n block ≡ pbkdf2 f password salt c n
unfolding pbkdf2
key_of_one_block f password salt c zero block fits is = refl
key_of_one_block f password salt c (suc n) block fits is =
    let t = derived_block f password salt c in
    ap (take (suc n)) (is ∙ sym (append-nil (t 1)))
    ∙ ap (λ m. take (suc n) (concat (map t (range_with_len 1 m)))) (sym (one_block (suc n) f.output_len (omega arith) fits))
