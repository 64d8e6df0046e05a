-- Sums of octet strings by exclusive or.
use Rattle.std.proofs.Common.{◌≡◌, ℕ, ◌<◌, ◌≤◌, List, length, slice_index, bit_xor, sym, ap, subst, ◌∙◌, arith, ⊎_elim}
use Rattle.std.proofs.lemmas.List.{ext_get_or, get_or_past}
use Rattle.std.proofs.lemmas.List.FromFn.{length-map-range_with_len, get_or-map-range_with_len}
use Rattle.std.proofs.lemmas.Bool.{cases_lt}
use Rattle.std.proofs.lemmas.Nat.{xor_comm, xor_lt}
use Rattle.std.proofs.lemmas.Simd.{length-zip2, get_or-zip2}
use Rattle.std.specs.Simd.Lanes.{zip2}
use Rattle.aes.specs.Block.{IsBlock}
use Rattle.octets.specs.Octets.{xor_octets}
use Rattle.aes.proofs.Lemmas.{xor_twice}

pub length-xor : (x y : List ℕ) → length (xor_octets x y) ≡ length x
unfolding xor_octets
length-xor x y = length-map-range_with_len (λ i. bit_xor (slice_index x i) (slice_index y i)) 0 (length x)

pub at-xor : (x y : List ℕ) (i : ℕ) → i < length x → slice_index (xor_octets x y) i ≡ bit_xor (slice_index x i) (slice_index y i)
unfolding xor_octets
at-xor x y i h = get_or-map-range_with_len (λ i. bit_xor (slice_index x i) (slice_index y i)) 0 (length x) i i 0 h (omega arith)

-- the sum of two vectors
pub xor_zipped : (x y : List ℕ) → length x ≡ length y → zip2 bit_xor x y ≡ xor_octets x y
xor_zipped x y h = ext_get_or 0 (zip2 bit_xor x y) (xor_octets x y) (length-zip2 bit_xor x y h ∙ sym (length-xor x y)) (λ i l.
    let m : i < length x = subst (λ n. i < n) (length-zip2 bit_xor x y h) l in
    get_or-zip2 bit_xor x y i 0 0 0 m (subst (λ n. i < n) h m) ∙ sym (at-xor x y i m))

pub xor_turned : (x y : List ℕ) → length x ≡ length y → xor_octets x y ≡ xor_octets y x
xor_turned x y h = ext_get_or 0 (xor_octets x y) (xor_octets y x) (length-xor x y ∙ h ∙ sym (length-xor y x)) (λ i l.
    let m : i < length x = subst (λ n. i < n) (length-xor x y) l in
    at-xor x y i m ∙ xor_comm (slice_index x i) (slice_index y i) ∙ sym (at-xor y x i (subst (λ n. i < n) h m)))

pub xor_octets_twice : (x y : List ℕ) → xor_octets (xor_octets x y) y ≡ x
xor_octets_twice x y = ext_get_or 0 (xor_octets (xor_octets x y) y) x (length-xor (xor_octets x y) y ∙ length-xor x y) (λ i l.
    let k : i < length (xor_octets x y) = subst (λ n. i < n) (length-xor (xor_octets x y) y) l in
    let m : i < length x = subst (λ n. i < n) (length-xor x y) k in
    at-xor (xor_octets x y) y i k ∙ ap (λ v. bit_xor v (slice_index y i)) (at-xor x y i m) ∙ xor_twice (slice_index x i) (slice_index y i))

pub xor_is_block : (x y : List ℕ) → IsBlock x → IsBlock y → IsBlock (xor_octets x y)
xor_is_block x y a b = record {
  sixteen = length-xor x y ∙ a.sixteen;
  octets = λ i. ⊎_elim
      (λ l. subst (λ v. v < 256) (sym (at-xor x y i l)) (xor_lt 8 (slice_index x i) (slice_index y i) (a.octets i) (b.octets i)))
      (λ l. subst (λ v. v < 256) (sym (get_or_past (xor_octets x y) i 0 (subst (λ n. n ≤ i) (sym (length-xor x y)) l))) (let z : 0 < 256 = omega arith in z))
      (cases_lt i (length x));
}
