-- With every algorithm, at most one plaintext has a given ciphertext.
use Rattle.std.proofs.Common.{◌≡◌, ℕ, ◌+◌, ◌*◌, ◌<◌, List, length, drop, slice_index, sym, subst, ◌∙◌}
use Rattle.std.proofs.lemmas.List.{get_or-drop}
use Rattle.aes.specs.Block.{IsBlock, IsCipher}
use Rattle.aes.specs.Cipher.{encrypted_block}
use Rattle.aes.specs.InverseCipher.{inverse_cipher}
use Rattle.aes.specs.KeyExpansion.{key_expansion}
use Rattle.ciphers.specs.declared.content_alg.ContentAlg.{ContentAlg}
use Rattle.ciphers.specs.Algorithms.{ContentFamily, aes_cbc_hmac, aes_gcm, content_family}
use Rattle.ciphers.specs.Sealing.{iv_len_in, sealing_in, sealing, Opens, IsOpening}
use Rattle.modes.specs.Cbc.{cbc}
use Rattle.modes.specs.Gcm.{gcm_ciphertext}
use Rattle.octets.specs.Octets.{IsOctets}

module _
    (cipher : (nk : ℕ) (k : List ℕ) → ((i : ℕ) → slice_index k i < 256) → IsCipher (encrypted_block nk k) (inverse_cipher (nk + 6) (key_expansion nk k)))
    (one : (e d : List ℕ → List ℕ) (iv p q : List ℕ) → IsCipher e d → IsBlock iv → IsOctets p → IsOctets q → cbc e iv p ≡ cbc e iv q → p ≡ q)
    (one_gcm : (e : List ℕ → List ℕ) (iv p q : List ℕ) → gcm_ciphertext e iv p ≡ gcm_ciphertext e iv q → p ≡ q) where
  half : (n : ℕ) (cek : List ℕ) → IsOctets cek → IsOctets (drop n cek)
  half n cek o i = subst (λ v. v < 256) (sym (get_or-drop n cek i 0)) (o (n + i))

  under : (nk n : ℕ) (cek iv p q c : List ℕ) → IsOctets cek → IsOctets iv → length iv ≡ 16 → IsOctets p → IsOctets q
      → cbc (encrypted_block nk (drop n cek)) iv p ≡ c → cbc (encrypted_block nk (drop n cek)) iv q ≡ c → p ≡ q
  under nk n cek iv p q c key start sixteen x y a b =
      one _ _ iv p q (cipher nk (drop n cek) (half n cek key)) (record { sixteen = sixteen; octets = start }) x y (a ∙ sym b)

  in_family : (family : ContentFamily) (cek iv aad c tag p q : List ℕ) → IsOctets cek → IsOctets iv → length iv ≡ iv_len_in family
      → Opens (sealing_in family cek iv aad) c tag p → Opens (sealing_in family cek iv aad) c tag q → p ≡ q
  in_family (aes_cbc_hmac nk f) cek iv aad c tag p q key start fits a b =
      under nk (4 * nk) cek iv p q c key start fits a.octets b.octets a.ciphertext b.ciphertext
  in_family (aes_gcm nk) cek iv aad c tag p q key start fits a b = one_gcm (encrypted_block nk cek) iv p q (a.ciphertext ∙ sym b.ciphertext)

  pub one_opening : (alg : ContentAlg) (cek iv aad c tag p q : List ℕ) → IsOctets cek → IsOctets iv
      → IsOpening alg cek iv aad c tag p → IsOpening alg cek iv aad c tag q → p ≡ q
  unfolding sealing
  one_opening alg cek iv aad c tag p q key start a b = in_family (content_family alg) cek iv aad c tag p q key start a.iv_fits a.opens b.opens
