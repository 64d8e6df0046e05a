-- The part of the ciphertext that a beginning of the plaintext fixes grows as more is read, and begins the whole ciphertext.
use Rattle.std.proofs.Common.{◌≡◌, ℕ, ◌+◌, ◌-◌, ◌*◌, ◌/◌, ◌%◌, List, ◌++◌, length, drop, map, slice_index, bit_xor, refl, sym, ◌∙◌, ap, arith, append_assoc, append-nil}
use Rattle.std.proofs.lemmas.List.FromFn.{length-map-range_with_len, get_or-map-range_with_len}
use Rattle.std.specs.List.{range_with_len}
use Rattle.std.specs.Prelude.{replicate}
use Rattle.ciphers.specs.declared.content_alg.ContentAlg.{ContentAlg}
use Rattle.ciphers.specs.Algorithms.{ContentFamily, aes_cbc_hmac, aes_gcm, content_family}
use Rattle.ciphers.specs.Sealing.{sealing_in, sealing}
use Rattle.modes.specs.Cbc.{pad, chained, cbc_blocks, cbc}
use Rattle.modes.specs.Ctr.{stream_octet, ctr}
use Rattle.modes.specs.Gcm.{gcm_ciphertext}
use Rattle.modes.proofs.Lemmas.{none_alone, blocks_behind, whole_of, length-whole, whole_and_rest, waits_short, ctr-append}
use Rattle.octets.specs.Plan.{Begins}

-- The whole blocks of a beginning begin those of the plaintext.
blocks_grow : (e : List ℕ → List ℕ) (iv p q : List ℕ) → Begins (cbc_blocks e iv p) (cbc_blocks e iv (p ++ q))
blocks_grow e iv p q =
    let n : ℕ = length p / 16 in
    let front : List ℕ = whole_of p in
    let waits : List ℕ = drop (16 * n) p in
    let last : List ℕ = chained e iv front n in
    let whole : length front ≡ 16 * n = length-whole p waits refl in
    let is : p ≡ front ++ waits = sym (whole_and_rest p waits refl) in
    let own : cbc_blocks e iv p ≡ cbc_blocks e iv front =
    ap (cbc_blocks e iv) is ∙ blocks_behind e iv front n whole waits
    ∙ ap (λ t. cbc_blocks e iv front ++ t) (none_alone e last waits (waits_short p waits refl)) ∙ append-nil (cbc_blocks e iv front) in
    record {
      rest = cbc_blocks e last (waits ++ q);
      continues = ap (λ t. cbc_blocks e iv (t ++ q)) is ∙ ap (cbc_blocks e iv) (append_assoc front waits q) ∙ blocks_behind e iv front n whole (waits ++ q)
          ∙ ap (λ t. t ++ cbc_blocks e last (waits ++ q)) (sym own);
    }

-- The whole blocks of a beginning begin the padded ciphertext.
padded_grows : (e : List ℕ → List ℕ) (iv p q : List ℕ) → Begins (cbc_blocks e iv p) (cbc e iv (p ++ q))
unfolding cbc pad
padded_grows e iv p q =
    let left : ℕ = 16 - length (p ++ q) % 16 in
    let more = blocks_grow e iv p (q ++ replicate left left) in
    record { rest = more.rest; continues = ap (cbc_blocks e iv) (append_assoc p q (replicate left left)) ∙ more.continues }

-- In counter mode, the ciphertext of a beginning begins the whole ciphertext.
stream_grows : (e : List ℕ → List ℕ) (f p q : List ℕ) → Begins (ctr e f p) (ctr e f (p ++ q))
stream_grows e f p q =
    let octet : ℕ → ℕ = λ i. bit_xor (slice_index q i) (stream_octet e f (length p + i)) in
    let rest : List ℕ = map octet (range_with_len 0 (length q)) in
    record {
      rest = rest;
      continues = ctr-append e f p q rest (length-map-range_with_len octet 0 (length q))
          (λ i l. get_or-map-range_with_len octet 0 (length q) i i 0 l (omega arith));
    }

-- In each family, the fixed part grows.
fixed_grows_in : (family : ContentFamily) (cek iv aad p q : List ℕ)
    → Begins ((sealing_in family cek iv aad).fixed p) ((sealing_in family cek iv aad).fixed (p ++ q))
unfolding gcm_ciphertext
fixed_grows_in (aes_cbc_hmac nk f) cek iv aad p q = blocks_grow _ iv p q
fixed_grows_in (aes_gcm nk) cek iv aad p q = stream_grows _ _ p q

ciphertext_grows_in : (family : ContentFamily) (cek iv aad p q : List ℕ)
    → Begins ((sealing_in family cek iv aad).fixed p) ((sealing_in family cek iv aad).sealed (p ++ q)).ciphertext
unfolding gcm_ciphertext
ciphertext_grows_in (aes_cbc_hmac nk f) cek iv aad p q = padded_grows _ iv p q
ciphertext_grows_in (aes_gcm nk) cek iv aad p q = stream_grows _ _ p q

-- With each algorithm, the fixed part grows.
pub fixed_grows : (alg : ContentAlg) (cek iv aad p q : List ℕ) → Begins ((sealing alg cek iv aad).fixed p) ((sealing alg cek iv aad).fixed (p ++ q))
unfolding sealing
fixed_grows alg = fixed_grows_in (content_family alg)

-- With each algorithm, the fixed part begins the ciphertext.
pub ciphertext_grows : (alg : ContentAlg) (cek iv aad p q : List ℕ)
    → Begins ((sealing alg cek iv aad).fixed p) ((sealing alg cek iv aad).sealed (p ++ q)).ciphertext
unfolding sealing
ciphertext_grows alg = ciphertext_grows_in (content_family alg)
