-- A tag is not empty.
use Rattle.std.proofs.Common.{◌≡◌, ℕ, ◌/◌, ◌≤◌, List, ◌++◌, length, refl, arith}
use Rattle.std.proofs.lemmas.List.{length-take}
use Rattle.ciphers.specs.Algorithms.{ContentFamily, aes_cbc_hmac, aes_gcm, content_family}
use Rattle.ciphers.specs.Sealing.{cbc_tag, sealing_in, sealing}
use Rattle.ciphers.specs.declared.content_alg.ContentAlg.{ContentAlg}
use Rattle.ciphers.proofs.Rows.{HasHash, content_row}
use Rattle.modes.specs.Gcm.{bit_length, pre_counter_block, gcm_hash, gcm_tag}
use Rattle.modes.specs.Ghash.{ghash}
use Rattle.modes.proofs.Lemmas.{length-xor}
use Rattle.prf.specs.HashFunction.{HashFunction, IsHashFunction}
use Rattle.prf.specs.Hmac.{hmac}

-- Half of a MAC of at least two octets is not empty.
some_cbc_tag : (f : HashFunction) → IsHashFunction f → 2 ≤ f.output_len → (mac_key iv aad c : List ℕ) → 1 ≤ length (cbc_tag f mac_key iv aad c)
unfolding cbc_tag hmac
some_cbc_tag f is two mac_key iv aad c =
    let mac : List ℕ = hmac f mac_key (((aad ++ iv) ++ c) ++ bit_length aad) in
    let long : length mac ≡ f.output_len = is.digests _ in
    omega (arith, two, long, length-take (f.output_len / 2) mac)

-- The tag of GCM is not empty.
some_gcm_tag : (e : List ℕ → List ℕ) (iv aad c : List ℕ) → 1 ≤ length (gcm_tag e iv aad c)
unfolding gcm_tag ghash
some_gcm_tag e iv aad c =
    let long : length (gcm_hash e aad c) ≡ 16 = refl in
    omega (arith, long, length-xor (gcm_hash e aad c) (e (pre_counter_block iv)))

-- The tag of each algorithm is not empty.
pub some_tag : (alg : ContentAlg) (cek iv aad p : List ℕ) → 1 ≤ length ((sealing alg cek iv aad).sealed p).tag
unfolding sealing
some_tag alg cek iv aad p = in_family (content_family alg) (content_row alg).hash
  where
    in_family : (family : ContentFamily) → HasHash family → 1 ≤ length ((sealing_in family cek iv aad).sealed p).tag
    in_family (aes_cbc_hmac nk f) hash = some_cbc_tag f hash.law hash.two _ _ _ _
    in_family (aes_gcm nk) hash = some_gcm_tag _ _ _ _
