-- A ciphertext and a tag that open, and an encrypted key that delivers, are octets.
use Rattle.std.proofs.Common.{◌≡◌, ℕ, suc, ◌+◌, ◌*◌, ◌/◌, ◌<◌, ◌≤◌, List, [], ◌∷◌, ◌++◌, length, drop, slice_index, subst, arith}
use Rattle.aes.specs.Block.{IsCipher}
use Rattle.aes.specs.Cipher.{encrypted_block}
use Rattle.aes.specs.InverseCipher.{inverse_cipher}
use Rattle.aes.specs.KeyExpansion.{key_expansion}
use Rattle.ciphers.specs.Algorithms.{ContentFamily, aes_cbc_hmac, aes_gcm, content_family, KeyFamily, direct, aes_key_wrap, aes_gcm_key_wrap, pbes2, key_family}
use Rattle.ciphers.specs.Delivery.{Parameters, derived_key, directly, by_wrap, way_in, tag_by, key_tag_of, Delivers, IsDelivered}
use Rattle.ciphers.specs.KeyWrap.{table, wrapped}
use Rattle.ciphers.specs.Sealing.{cbc_tag, iv_len_in, sealing_in, sealing, Opens, IsOpening}
use Rattle.ciphers.specs.declared.content_alg.ContentAlg.{ContentAlg}
use Rattle.ciphers.specs.declared.key_alg.KeyAlg.{KeyAlg}
use Rattle.ciphers.proofs.Deliveries.{decided, gcm_opening}
use Rattle.ciphers.proofs.Rows.{HasHash, content_row, IsKeyRow, key_row}
use Rattle.ciphers.proofs.Table.{table_is_half}
use Rattle.modes.specs.Cbc.{cbc}
use Rattle.modes.proofs.Lemmas.{joined_octets, cbc_octets, gcm_ciphertext_octets, gcm_tag_octets}
use Rattle.octets.specs.Octets.{IsOctets}
use Rattle.octets.proofs.Lemmas.{IsOctets-nil, IsOctets-take, IsOctets-drop}
use Rattle.prf.specs.HashFunction.{HashFunction, IsHashFunction}
use Rattle.prf.specs.Hmac.{hmac}
use Rattle.prf.specs.Pbkdf2.{pbkdf2}

-- The tag made with a hash function is octets.
cbc_tag_octets : (f : HashFunction) → IsHashFunction f → (mac_key iv aad c : List ℕ) → IsOctets (cbc_tag f mac_key iv aad c)
unfolding cbc_tag hmac
cbc_tag_octets f is mac_key iv aad c = IsOctets-take _ _ (is.octets _)

-- If at least two parts are wrapped, the result is octets.
wrapped_octets : (e d : List ℕ → List ℕ) → IsCipher e d → (p : List ℕ) → IsOctets p → 16 ≤ length p → IsOctets (wrapped e p)
unfolding wrapped
wrapped_octets e d law p octets two =
    let n = length p / 8 in
    joined_octets (table e p (6 * n)) (suc n) 0 (λ k l. (table_is_half e d law p octets two (6 * n) (0 + k) (omega arith)).octets)

module _ (cipher : (nk : ℕ) (k : List ℕ) → ((i : ℕ) → slice_index k i < 256)
    → IsCipher (encrypted_block nk k) (inverse_cipher (nk + 6) (key_expansion nk k))) where
  -- The ciphertext of CBC is octets.
  under_cbc : (nk n : ℕ) (cek iv p : List ℕ) → IsOctets cek → IsOctets iv → length iv ≡ 16 → IsOctets p → IsOctets (cbc (encrypted_block nk (drop n cek)) iv p)
  under_cbc nk n cek iv p key start sixteen octets =
      cbc_octets _ _ (cipher nk (drop n cek) (IsOctets-drop n cek key)) iv (record { sixteen = sixteen; octets = start }) p octets

  -- A ciphertext and a tag that open are octets.
  pub opened_is_octets : (alg : ContentAlg) (cek iv aad c tag p : List ℕ) → IsOctets cek → IsOctets iv → IsOpening alg cek iv aad c tag p
      → IsOctets c × IsOctets tag
  unfolding sealing
  opened_is_octets alg cek iv aad c tag p key start o =
      let all = in_family (content_family alg) (content_row alg).hash o.iv_fits o.opens in
      (subst IsOctets o.opens.ciphertext all.0, subst IsOctets o.opens.is_tag all.1)
    where
      in_family : (family : ContentFamily) → HasHash family → length iv ≡ iv_len_in family → Opens (sealing_in family cek iv aad) c tag p
          → IsOctets ((sealing_in family cek iv aad).sealed p).ciphertext × IsOctets ((sealing_in family cek iv aad).sealed p).tag
      in_family (aes_cbc_hmac nk f) hash fits o = (under_cbc nk (4 * nk) cek iv p key start fits o.octets, cbc_tag_octets f hash.law _ _ _ _)
      in_family (aes_gcm nk) hash fits o =
          (gcm_ciphertext_octets _ _ (cipher nk cek key) iv p fits start o.octets, gcm_tag_octets _ _ (cipher nk cek key) iv aad _ fits start)

  module _ (derives : (f : HashFunction) (password salt : List ℕ) (c len : ℕ) → IsHashFunction f → IsOctets (pbkdf2 f password salt c len)) where
    -- A derived key is octets.
    pub derived : (f : HashFunction) (name : List ℕ) (len : ℕ) (key p2s : List ℕ) (p2c : ℕ) → IsHashFunction f → IsOctets (derived_key f name len key p2s p2c)
    unfolding derived_key
    derived f name len key p2s p2c is = derives f key (name ++ 0 ∷ p2s) p2c len is

    -- An encrypted key that delivers is octets, and so is the tag that is made with it.
    pub delivering_is_octets : (alg : KeyAlg) (enc : ContentAlg) (key : List ℕ) (p : Parameters) (encrypted cek : List ℕ) → IsOctets key → IsOctets p.iv
        → IsDelivered alg enc key p encrypted cek → IsOctets encrypted × IsOctets (key_tag_of alg key p cek)
    unfolding key_tag_of
    delivering_is_octets alg enc key p encrypted cek octets start is = in_family (key_family alg) (key_row alg) is
      where
        under : (nk : ℕ) (kek : List ℕ) → IsOctets kek → Delivers (by_wrap (encrypted_block nk kek)) enc key p encrypted cek → IsOctets encrypted × IsOctets []
        under nk kek small d =
            let r = (decided enc key p encrypted (by_wrap (encrypted_block nk kek)) cek).0 d.is_delivered in
            (subst IsOctets r.1.0 (wrapped_octets _ _ (cipher nk kek small) cek d.octets (omega (arith, r.0, (content_row enc).two))), IsOctets-nil)

        in_family : (family : KeyFamily) → IsKeyRow family → Delivers (way_in family key p) enc key p encrypted cek
            → IsOctets encrypted × IsOctets (tag_by (way_in family key p) p cek)
        in_family direct row d =
            (subst IsOctets ((decided enc key p encrypted directly cek).0 d.is_delivered).1.0 IsOctets-nil, IsOctets-nil)
        in_family (aes_key_wrap nk) row d = under nk key octets d
        in_family (aes_gcm_key_wrap nk) row d =
            let e : List ℕ → List ℕ = encrypted_block nk key in
            let o = gcm_opening enc key p encrypted e cek d in
            let law = cipher nk key octets in
            (subst IsOctets o.1.is_ciphertext (gcm_ciphertext_octets _ _ law p.iv cek o.0 start d.octets), gcm_tag_octets _ _ law p.iv [] _ o.0 start)
        in_family (pbes2 f name nk) row d = under nk _ (derived f name (4 * nk) key p.p2s p.p2c row) d
