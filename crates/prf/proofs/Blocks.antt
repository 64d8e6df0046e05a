-- Blocks of octets: adding a pad to each octet, and filling up with zeros.
use Rattle.std.proofs.Common.{◌≡◌, ℕ, ◌+◌, ◌-◌, ◌<◌, ◌≤◌, List, [], ◌∷◌, ◌++◌, length, take, drop, replicate, get_or, slice_set, bit_xor, Bool, true, false, cond, nat_lt, sym, ap, ◌∙◌, arith, append_assoc}
use Rattle.std.proofs.lemmas.Bool.Decides.{nat_tests}
use Rattle.std.proofs.lemmas.List.{take_more, drop_more, set_at, get_or_at, map-append, length-take-le, drop-replicate, take-replicate, take-map}
use Rattle.std.proofs.Math.Seq.{take-append-add}
use Rattle.std.proofs.Math.ListN.{length-map}
use Rattle.prf.specs.HashFunction.{HashFunction}
use Rattle.prf.specs.Hmac.{xor_each, key_block}

-- One more octet is processed.
pub xor_each-more : (block b : List ℕ) (pad i : ℕ) → i < length b → block ≡ xor_each pad (take i b) ++ drop i b
    → slice_set block i (bit_xor (get_or block i 0) pad) ≡ xor_each pad (take (i + 1) b) ++ drop (i + 1) b
xor_each-more block b pad i h e =
    let p = xor_each pad (take i b) in
    let y = get_or b i 0 in
    let rest = drop (i + 1) b in
    let lp : length p ≡ i = simp length-map (length-take-le i b (omega arith)) in
    let whole : block ≡ p ++ y ∷ rest = e ∙ ap (λ l. p ++ l) (drop_more b i 0 h) in
    let read : get_or block i 0 ≡ y = ap (λ l. get_or l i 0) whole ∙ get_or_at p y rest 0 i lp in
    let more : xor_each pad (take (i + 1) b) ≡ p ++ bit_xor y pad ∷ [] = ap (xor_each pad) (take_more b i 0 h)
    ∙ map-append (λ o. bit_xor o pad) (take i b) (y ∷ []) in
    ap (λ v. slice_set block i (bit_xor v pad)) read ∙ ap (λ l. slice_set l i (bit_xor y pad)) whole ∙ set_at p y rest (bit_xor y pad) i lp
    ∙ sym (ap (λ l. l ++ rest) more ∙ append_assoc p (bit_xor y pad ∷ []) rest)

-- The pad is added to the part of the block that is hashed.
pub take-xor_each : (pad n : ℕ) (b : List ℕ) → take n (xor_each pad b) ≡ xor_each pad (take n b)
take-xor_each pad n b = take-map (λ o. bit_xor o pad) n b

-- Octets at the front of a block of zeros are followed by zeros.
filled : (short : List ℕ) (n : ℕ) → length short ≤ n → n ≤ 128
    → take n (short ++ drop (length short) (replicate 128 0)) ≡ short ++ replicate (n - length short) 0
filled short n h k =
    let parts : n ≡ length short + (n - length short) = omega arith in
    let zeros : drop (length short) (replicate 128 0) ≡ replicate (128 - length short) 0 = drop-replicate (length short) 128 0 in
    ap (λ m. take m (short ++ drop (length short) (replicate 128 0))) parts ∙ take-append-add short (drop (length short) (replicate 128 0)) (n - length short)
    ∙ ap (λ l. short ++ take (n - length short) l) zeros ∙ ap (λ l. short ++ l) (take-replicate (n - length short) (128 - length short) 0 (omega arith))

-- The test of a key's length passes if the key is longer than a block.
longer : (m n b : ℕ) → b ≡ m → b < n → nat_lt m n ≡ true
longer m n b e h = grind (arith, nat_tests)

not_longer : (m n b : ℕ) → b ≡ m → n ≤ b → nat_lt m n ≡ false
not_longer m n b e h = grind (arith, nat_tests)

-- With a known result of the test of its length, the block of a key is this one.
key_block_by : (f : HashFunction) (key : List ℕ) (test : Bool) → nat_lt f.block_len (length key) ≡ test
    → cond test (f.digest key) key ++ replicate (f.block_len - length (cond test (f.digest key) key)) 0 ≡ key_block f key
key_block_by f key test e = sym (ap (λ t. cond t (f.digest key) key ++ replicate (f.block_len - length (cond t (f.digest key) key)) 0) e)

block_of : (f : HashFunction) (key short old new : List ℕ) → f.block_len ≤ 128 → length short ≤ f.block_len → old ≡ replicate 128 0
    → new ≡ short ++ drop (length short) old → short ++ replicate (f.block_len - length short) 0 ≡ key_block f key → take f.block_len new ≡ key_block f key
block_of f key short old new h k zeros is same =
    ap (take f.block_len) (is ∙ ap (λ o. short ++ drop (length short) o) zeros) ∙ filled short f.block_len k h ∙ same

-- A key that is longer than a block is hashed first.
pub block_of_long : (f : HashFunction) (key old new : List ℕ) (b : ℕ) → b ≡ f.block_len → b < length key → f.block_len ≤ 128
    → length (f.digest key) ≤ f.block_len
    → old ≡ replicate 128 0 → new ≡ f.digest key ++ drop (length (f.digest key)) old → take f.block_len new ≡ key_block f key
block_of_long f key old new b e l h k zeros is =
    block_of f key (f.digest key) old new h k zeros is (key_block_by f key true (longer f.block_len (length key) b e l))

-- A key that is not longer than a block is not hashed.
pub block_of_short : (f : HashFunction) (key old new : List ℕ) (b : ℕ) → b ≡ f.block_len → length key ≤ b → f.block_len ≤ 128
    → old ≡ replicate 128 0 → new ≡ key ++ drop (length key) old → take f.block_len new ≡ key_block f key
block_of_short f key old new b e l h zeros is =
    block_of f key key old new h (omega arith) zeros is (key_block_by f key false (not_longer f.block_len (length key) b e l))
