-- GCM: counter mode undoes itself, and the hash is over whole blocks.
use Rattle.std.proofs.Common.{◌≡◌, ℕ, ◌+◌, ◌-◌, ◌%◌, ◌^◌, ◌<◌, List, [], ◌∷◌, ◌++◌, length, replicate, get_or, bit_xor, w32, refl, sym, ap, ap₂, subst, ◌∙◌, arith, length-append, append_assoc, append-nil, ext_get_or}
use Rattle.std.specs.Int.{from_be_bytes, to_be_bytes}
use Rattle.std.proofs.lemmas.List.{take_at, drop_at, length-replicate}
use Rattle.octets.specs.Octets.{xor_octets}
use Rattle.modes.specs.Ctr.{counter_block, stream_octet, ctr}
use Rattle.modes.specs.Gcm.{pre_counter_block, bit_length, gcm_ciphertext, gcm_tag}
use Rattle.modes.specs.Ghash.{zero_filled, ghash}
use Rattle.modes.proofs.Counting.{length-ctr, octet-ctr}
use Rattle.aes.proofs.Lemmas.{xor_twice}

-- ---- counter mode

pub ctr-ctr : (e : List ℕ → List ℕ) (f p : List ℕ) → ctr e f (ctr e f p) ≡ p
ctr-ctr e f p =
    let long = length-ctr e f [] [] p in
    ext_get_or 0 (ctr e f (ctr e f p)) p (length-ctr e f [] [] (ctr e f p) ∙ long) (λ i l.
    let inner : i < length (ctr e f p) = subst (λ n. i < n) (length-ctr e f [] [] (ctr e f p)) l in
    octet-ctr e f [] [] (ctr e f p) i inner
    ∙ ap (λ v. bit_xor v (stream_octet e f i)) (octet-ctr e f [] [] p i (subst (λ n. i < n) long inner))
    ∙ xor_twice (get_or p i 0) (stream_octet e f i))

pub ctr-none : (e : List ℕ → List ℕ) (f : List ℕ) → ctr e f [] ≡ []
unfolding ctr
ctr-none e f = refl

pub one_plaintext : (e : List ℕ → List ℕ) (iv p q : List ℕ) → gcm_ciphertext e iv p ≡ gcm_ciphertext e iv q → p ≡ q
unfolding gcm_ciphertext
one_plaintext e iv p q same =
    let f = counter_block (pre_counter_block iv) 1 in
    sym (ctr-ctr e f p) ∙ ap (ctr e f) same ∙ ctr-ctr e f q

pub length-gcm_ciphertext : (e : List ℕ → List ℕ) (iv p : List ℕ) → length (gcm_ciphertext e iv p) ≡ length p
unfolding gcm_ciphertext
length-gcm_ciphertext e iv p = length-ctr e (counter_block (pre_counter_block iv) 1) [] [] p

-- The counter block after J0 is the IV with the number 2.
pub second_counter : (iv : List ℕ) → length iv ≡ 12 → counter_block (pre_counter_block iv) 1 ≡ iv ++ 0 ∷ 0 ∷ 0 ∷ 2 ∷ []
unfolding counter_block
second_counter iv twelve =
    let one = 0 ∷ 0 ∷ 0 ∷ 1 ∷ [] in
    ap₂ (λ s t. s ++ to_be_bytes w32 ((from_be_bytes w32 t + 1) % 2 ^ 32)) (take_at iv one 12 twelve) (drop_at iv one 12 twelve)

-- ---- whole blocks

pub filled_whole : (x : List ℕ) → length (zero_filled x) % 16 ≡ 0
unfolding zero_filled
filled_whole x =
    let n = (16 - length x % 16) % 16 in
    let long : length (x ++ replicate n 0) ≡ length x + n = length-append x (replicate n 0) ∙ ap (λ m. length x + m) (length-replicate n 0) in
    omega (arith, long)

pub filled_already : (x : List ℕ) → length x % 16 ≡ 0 → zero_filled x ≡ x
unfolding zero_filled
filled_already x whole = ap (λ n. x ++ replicate n 0) (let e : (16 - length x % 16) % 16 ≡ 0 = omega (arith, whole) in e) ∙ append-nil x

pub filled_behind : (x y : List ℕ) → length x % 16 ≡ 0 → zero_filled (x ++ y) ≡ x ++ zero_filled y
unfolding zero_filled
filled_behind x y whole =
    let long = length-append x y in
    append_assoc x y _ ∙ ap (λ n. x ++ (y ++ replicate n 0))
    (let e : (16 - length (x ++ y) % 16) % 16 ≡ (16 - length y % 16) % 16 = omega (arith, whole, long) in e)

-- After whole blocks, both lengths fill a block.
pub lengths_behind : (x a b : List ℕ) → length a ≡ 8 → length b ≡ 8 → zero_filled ((zero_filled x ++ a) ++ b) ≡ (zero_filled x ++ a) ++ b
lengths_behind x a b eight other =
    filled_already ((zero_filled x ++ a) ++ b)
    (omega (arith, filled_whole x, length-append (zero_filled x ++ a) b, length-append (zero_filled x) a, eight, other))

-- The tag is the hash of the padded texts and their lengths, plus the mask.
pub tag_is : (e : List ℕ → List ℕ) (iv aad c a b mask result : List ℕ)
    → result ≡ xor_octets (ghash (e (replicate 16 0)) ((zero_filled (zero_filled aad ++ c) ++ a) ++ b)) mask
    → a ≡ bit_length aad → b ≡ bit_length c → mask ≡ e (pre_counter_block iv) → result ≡ gcm_tag e iv aad c
unfolding gcm_tag
tag_is e iv aad c a b mask result is is_a is_b is_mask =
    is
    ∙ ap₂ (λ s m. xor_octets (ghash (e (replicate 16 0)) s) m)
    (ap₂ (λ s t. s ++ t) (ap₂ (λ s t. s ++ t) (filled_behind (zero_filled aad) c (filled_whole aad)) is_a) is_b) is_mask
