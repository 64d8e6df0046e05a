-- A running sealing, from the plaintext that it was fed to the ciphertext that it returns.
use Rattle.std.proofs.Common.{◌≡◌, ℕ, ◌+◌, ◌*◌, ◌/◌, ◌≤◌, List, ◌++◌, length, take, sym, ap, subst, ◌∙◌, arith, length-append, Result, Ok, Err, IfOk, OnOk}
use Rattle.std.proofs.lemmas.List.{take_at, take-take, length-take-le}
use Rattle.ciphers.specs.Code.Views.{KeepsPace, HoldsGcmSealing}
use Rattle.ciphers.specs.Sealing.{Sealing, cbc_hmac}
use Rattle.modes.specs.Cbc.{cbc_blocks}
use Rattle.modes.specs.Gcm.{gcm_ciphertext}
use Rattle.modes.specs.Code.Views as modes
use Rattle.modes.specs.declared.gcm.Gcm.{Gcm}
use Rattle.octets.specs.declared.refusal.Refusal.{Refusal}
use Rattle.prf.specs.HashFunction.{HashFunction}

-- After a further piece, the whole blocks are as many as the length says.
pub whole_after : (e : List ℕ → List ℕ) (iv p piece out : List ℕ) (n : ℕ)
    → cbc_blocks e iv (p ++ piece) ≡ cbc_blocks e iv p ++ take n out → n ≤ length out
    → 16 * (length p / 16) + n ≡ 16 * (length (p ++ piece) / 16) → length (cbc_blocks e iv p) ≡ 16 * (length p / 16)
    → length (cbc_blocks e iv (p ++ piece)) ≡ 16 * (length (p ++ piece) / 16)
whole_after e iv p piece out n text l count whole =
    ap length text ∙ length-append (cbc_blocks e iv p) (take n out) ∙ omega (arith, whole, count, length-take-le n out l)

pub pace_of_whole : (f : HashFunction) (s : Sealing) (e : List ℕ → List ℕ) (mac_key iv aad p : List ℕ)
    → s ≡ cbc_hmac e f mac_key iv aad → length (cbc_blocks e iv p) ≡ 16 * (length p / 16) → KeepsPace s p
pace_of_whole f s e mac_key iv aad p is whole =
    subst (λ t. KeepsPace t p) (sym is) (record { within = omega (arith, whole); nearly = omega (arith, whole) })

-- The first half of a longer text is the first half of the text at its front.
pub first_half : (copy out rest code : List ℕ) (len l : ℕ) → len ≡ l → copy ≡ take (len / 2) out → take len out ≡ code → len ≤ length out
    → take (len / 2) (copy ++ rest) ≡ take (l / 2) code
first_half copy out rest code len l same is_copy is_code h =
    take_at copy rest (len / 2) (ap length is_copy ∙ length-take-le (len / 2) out (omega (arith, h)))
    ∙ is_copy ∙ sym (take-take (len / 2) len out (omega arith)) ∙ ap (take (len / 2)) is_code ∙ ap (λ m. take (m / 2) code) same

-- If GCM accepts a piece, the sealing holds the plaintext with this piece.
pub gcm_fed : {B : Type 0} (encrypted : B → List ℕ → List ℕ) (x y : Gcm B) (s : Sealing) (p piece out : List ℕ) (r : Result ℕ Refusal)
    (k : HoldsGcmSealing encrypted x s p)
    → length piece ≤ length out
    → IfOk r (λ n. n ≡ length piece) → OnOk r (modes.HoldsGcm encrypted y k.e k.iv k.aad (p ++ piece))
    → IfOk r (λ n. gcm_ciphertext k.e k.iv (p ++ piece) ≡ gcm_ciphertext k.e k.iv p ++ take n out)
    → OnOk r (HoldsGcmSealing encrypted y s (p ++ piece))
gcm_fed encrypted x y s p piece out (Ok n) k room len fed text =
    let longer : length (gcm_ciphertext k.e k.iv (p ++ piece)) ≡ length (p ++ piece) =
    ap length text ∙ length-append (gcm_ciphertext k.e k.iv p) (take n out)
    ∙ omega (arith, k.whole, len, length-append p piece, length-take-le n out (subst (λ m. m ≤ length out) (sym len) room)) in
    record {
      e = k.e;
      iv = k.iv;
      aad = k.aad;
      is_sealing = k.is_sealing;
      gcm = fed;
      whole = longer;
      pace = subst (λ t. KeepsPace t (p ++ piece)) (sym k.is_sealing) (record { within = omega (arith, longer); nearly = omega (arith, longer) });
    }
gcm_fed encrypted x y s p piece out (Err refusal) k room len fed text = tt
