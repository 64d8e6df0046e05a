-- Blocks as two halves of eight octets, halves as parts of a list, and the sum of a half and a number.
use Rattle.std.proofs.Common.{◌≡◌, ℕ, ◌+◌, ◌-◌, ◌*◌, ◌<◌, ◌≤◌, ◌^◌, List, ◌++◌, length, take, drop, bit_xor, w64, sym, ap, ap₂, subst, ◌∙◌, arith, rules, refl, length-append, length-take, length-drop, append-nil}
use Rattle.std.specs.Int.{from_be_bytes, to_be_bytes}
use Rattle.std.proofs.lemmas.List.{take_at, drop_at, drop_all, get_or-drop, places}
use Rattle.std.proofs.lemmas.Nat.{be_bytes_8, from_be_bytes-to_be_bytes_8, xor_lt}
use Rattle.aes.specs.Block.{IsBlock}
use Rattle.octets.specs.Octets.{IsOctets}
use Rattle.octets.proofs.Lemmas.{length-chunk, chunk_octets}
use Rattle.ciphers.specs.KeyWrap.{xor_count, part}
use borrow.Rule.Slice.PartMut.{put_mid}
use Rattle.aes.proofs.Lemmas.{xor_twice}

pub record IsHalf (a : List ℕ) : Type 0 where
  pub eight : length a ≡ 8
  pub octets : IsOctets a

pub block_of_halves : (a r : List ℕ) → IsHalf a → IsHalf r → IsBlock (a ++ r)
block_of_halves a r x y = record {
  sixteen = grind (arith, length-append a r, x.eight, y.eight);
  octets = λ i. grind (arith, places, x.octets i, y.octets (i - 8), x.eight, y.eight);
}

pub front_half : (b : List ℕ) → IsBlock b → IsHalf (take 8 b)
front_half b x = record {
  eight = grind (arith, length-take 8 b, x.sixteen);
  octets = λ i. grind (arith, places, x.octets i, x.sixteen);
}

pub back_half : (b : List ℕ) → IsBlock b → IsHalf (drop 8 b)
back_half b x = record {
  eight = grind (arith, length-drop 8 b, x.sixteen);
  octets = λ i. subst (λ v. v < 256) (sym (get_or-drop 8 b i 0)) (x.octets (8 + i));
}

pub part_is_half : (p : List ℕ) (i : ℕ) → IsOctets p → 8 * i + 8 ≤ length p → IsHalf (part p i)
part_is_half p i o h = record { eight = length-chunk 8 p i h; octets = chunk_octets 8 p i o }

-- The second half is overwritten.
pub written_behind : (x y z : List ℕ) → length x ≡ 8 → length z ≡ 8 → put_mid 8 8 (x ++ z) y ≡ x ++ y
written_behind x y z h k =
    ap₂ (λ s t. s ++ (y ++ t)) (take_at x z 8 h) (ap (drop 8) (drop_at x z 8 h) ∙ drop_all 8 z (omega (arith, k)))
    ∙ ap (λ t. x ++ t) (append-nil y)

pub count_is_half : (t : ℕ) (a : List ℕ) → IsHalf (xor_count t a)
unfolding xor_count
count_is_half t a = record { eight = refl; octets = λ i. search rules }

from_half : (a : List ℕ) → IsHalf a → from_be_bytes w64 a < 2 ^ 64
from_half a x = search rules

pub count_twice : (t : ℕ) (a : List ℕ) → IsHalf a → t < 2 ^ 64 → xor_count t (xor_count t a) ≡ a
unfolding xor_count
count_twice t a x h =
    let x' = from_be_bytes w64 a in
    be_bytes_8 a (bit_xor (from_be_bytes w64 (to_be_bytes w64 (bit_xor x' t))) t) x.eight x.octets
    (ap (λ n. bit_xor n t) (from_be_bytes-to_be_bytes_8 (bit_xor x' t) (xor_lt 64 x' t (from_half a x) h)) ∙ xor_twice x' t)
