use Rattle.std.proofs.Common.{◌≡◌, ℕ, ◌+◌, ◌*◌, ◌<◌, ◌≤◌, List, length, slice_index, sym, ◌∙◌, arith}
use Rattle.std.proofs.lemmas.Slice.Eq.{bytes_eq-Decides}
use Rattle.aes.specs.Block.{IsCipher}
use Rattle.aes.specs.Cipher.{encrypted_block}
use Rattle.aes.specs.InverseCipher.{inverse_cipher}
use Rattle.aes.specs.KeyExpansion.{key_expansion}
use Rattle.ciphers.specs.Algorithms.{KeyFamily, direct, aes_key_wrap, aes_gcm_key_wrap, pbes2, key_family}
use Rattle.ciphers.specs.Delivery.{Parameters, directly, by_wrap, way_in, Delivers}
use Rattle.ciphers.specs.declared.content_alg.ContentAlg.{ContentAlg}
use Rattle.ciphers.proofs.Deliveries.{decided, unwrapping, gcm_opening}
use Rattle.ciphers.proofs.Octets.{derived}
use Rattle.ciphers.proofs.Rows.{content_row, IsKeyRow, key_row}
use Rattle.ciphers.proofs.Unwrapping.{unwrapping_long, one_unwrapping}
use Rattle.ciphers.proofs.laws.delivery_is_unique.Goals as goal
use Rattle.modes.specs.Gcm.{gcm_ciphertext}
use Rattle.octets.specs.Octets.{IsOctets}
use Rattle.prf.specs.HashFunction.{HashFunction, IsHashFunction}
use Rattle.prf.specs.Pbkdf2.{pbkdf2}

module _
    (cipher : (nk : ℕ) (k : List ℕ) → ((i : ℕ) → slice_index k i < 256) → IsCipher (encrypted_block nk k) (inverse_cipher (nk + 6) (key_expansion nk k)))
    (derives : (f : HashFunction) (password salt : List ℕ) (c len : ℕ) → IsHashFunction f → IsOctets (pbkdf2 f password salt c len))
    (one_gcm : (e : List ℕ → List ℕ) (iv p q : List ℕ) → gcm_ciphertext e iv p ≡ gcm_ciphertext e iv q → p ≡ q)
    (enc : ContentAlg) (key : List ℕ) (p : Parameters) (encrypted cek other : List ℕ) where
  under : (nk : ℕ) (kek : List ℕ) → IsOctets kek → Delivers (by_wrap (encrypted_block nk kek)) enc key p encrypted cek
      → Delivers (by_wrap (encrypted_block nk kek)) enc key p encrypted other → cek ≡ other
  under nk kek octets a b =
      let e = encrypted_block nk kek in
      let d = inverse_cipher (nk + 6) (key_expansion nk kek) in
      let law = cipher nk kek octets in
      let u = unwrapping enc key p encrypted e cek a in
      let fits = ((decided enc key p encrypted (by_wrap e) cek).0 a.is_delivered).0 in
      let short : length encrypted ≤ 72 = omega (arith, unwrapping_long e d law encrypted cek u, fits, (content_row enc).most) in
      one_unwrapping e d law encrypted cek other short u (unwrapping enc key p encrypted e other b)

  -- A key that is used directly is the content encryption key.
  is_key : (x : List ℕ) → Delivers directly enc key p encrypted x → x ≡ key
  is_key x d = (bytes_eq-Decides x key).0 ((decided enc key p encrypted directly x).0 d.is_delivered).1.1

  one : (family : KeyFamily) → IsKeyRow family → IsOctets key → Delivers (way_in family key p) enc key p encrypted cek
      → Delivers (way_in family key p) enc key p encrypted other → cek ≡ other
  one direct row octets a b = is_key cek a ∙ sym (is_key other b)
  one (aes_key_wrap nk) row octets a b = under nk key octets a b
  one (aes_gcm_key_wrap nk) row octets a b =
      let e = encrypted_block nk key in
      one_gcm e p.iv cek other ((gcm_opening enc key p encrypted e cek a).1.is_ciphertext ∙ sym (gcm_opening enc key p encrypted e other b).1.is_ciphertext)
  one (pbes2 f name nk) row octets a b = under nk _ (derived cipher derives f name (4 * nk) key p.p2s p.p2c row) a b

pub returns : goal.returns
returns c = λ alg enc key p encrypted cek other octets a b.
    one c.encrypted_block_is_cipher.ensures c.derived_key_is_octets.ensures c.gcm_plaintext_is_unique.ensures enc key p encrypted cek other (key_family alg)
    (key_row alg) octets a b
