-- The cipher with the words of a key.
use Rattle.std.proofs.Common.{◌≡◌, ℕ, ◌+◌, ◌<◌, List, slice_index, refl, sym, ap, subst, ◌∙◌}
use Rattle.std.proofs.Math.Path.{fun_ext}
use Rattle.aes.specs.KeyExpansion.{key_expansion}
use Rattle.aes.specs.Block.{IsBlock, IsCipher}
use Rattle.aes.specs.Cipher.{IsDecryptedBlock, cipher, encrypted_block}
use Rattle.aes.specs.InverseCipher.{inverse_cipher}
use Rattle.aes.proofs.KeyWords.{key_expansion-lt}
use Rattle.aes.proofs.Rounds.{is_cipher}

module _ (nk : ℕ) (k w : List ℕ) (words : w ≡ key_expansion nk k) where
  pub encrypts : (b : List ℕ) → cipher (nk + 6) w b ≡ encrypted_block nk k b
  unfolding encrypted_block
  encrypts b = ap (λ w. cipher (nk + 6) w b) words

  pub makes_cipher : ((i : ℕ) → slice_index k i < 256) → IsCipher (cipher (nk + 6) w) (inverse_cipher (nk + 6) w)
  makes_cipher small = is_cipher w (key_expansion-lt nk k w words small) (nk + 6)

  pub decrypts : ((i : ℕ) → slice_index k i < 256) → (c : List ℕ) → IsBlock c → IsDecryptedBlock nk k c (inverse_cipher (nk + 6) w c)
  decrypts small c h =
      let law = makes_cipher small in
      record { is_block = law.gives_block_back c h; is_sent_to = sym (encrypts (inverse_cipher (nk + 6) w c)) ∙ law.mirror c h }

pub encrypted_block_is_cipher : (nk : ℕ) (k : List ℕ) → ((i : ℕ) → slice_index k i < 256)
    → IsCipher (encrypted_block nk k) (inverse_cipher (nk + 6) (key_expansion nk k))
encrypted_block_is_cipher nk k small =
    subst (λ e. IsCipher e (inverse_cipher (nk + 6) (key_expansion nk k))) (fun_ext (encrypts nk k (key_expansion nk k) refl))
    (makes_cipher nk k (key_expansion nk k) refl small)

-- Two blocks that the key encrypts to the same block are equal.
pub one_block : (nk : ℕ) (k c b d : List ℕ) → ((i : ℕ) → slice_index k i < 256) → IsDecryptedBlock nk k c b → IsDecryptedBlock nk k c d → b ≡ d
one_block nk k c b d small p q =
    let w = key_expansion nk k in
    let law = makes_cipher nk k w refl small in
    sym (law.undoes b p.is_block)
    ∙ ap (inverse_cipher (nk + 6) w) (encrypts nk k w refl b ∙ p.is_sent_to ∙ sym (encrypts nk k w refl d ∙ q.is_sent_to))
    ∙ law.undoes d q.is_block
