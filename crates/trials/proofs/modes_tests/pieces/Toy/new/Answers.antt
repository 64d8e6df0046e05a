use Rattle.std.proofs.Common.{◌≡◌, ℕ, ◌+◌, ◌%◌, ◌<◌, List, length, slice_index, bit_xor, sym, ap, subst, ◌∙◌, arith, ⊎_elim}
use Rattle.std.proofs.lemmas.List.{ext_get_or, get_or_past}
use Rattle.std.proofs.lemmas.List.FromFn.{length-map-range_with_len, get_or-map-range_with_len}
use Rattle.std.proofs.lemmas.Bool.{cases_lt}
use Rattle.std.proofs.lemmas.Nat.{xor_lt}
use Rattle.aes.specs.Block.{IsBlock}
use Rattle.trials.specs.Toy.{turned}
use Rattle.trials.proofs.modes_tests.pieces.Toy.new.Goals as goal
use Rattle.aes.proofs.Lemmas.{xor_twice}

length-turned : (n : ℕ) (b : List ℕ) → length (turned n b) ≡ 16
unfolding turned
length-turned n b = length-map-range_with_len (λ i. bit_xor (slice_index b ((i + n) % 16)) 1) 0 16

at-turned : (n : ℕ) (b : List ℕ) (i : ℕ) → i < 16 → slice_index (turned n b) i ≡ bit_xor (slice_index b ((i + n) % 16)) 1
unfolding turned
at-turned n b i l = get_or-map-range_with_len (λ i. bit_xor (slice_index b ((i + n) % 16)) 1) 0 16 i i 0 l (omega arith)

turned_is_block : (n : ℕ) (b : List ℕ) → IsBlock b → IsBlock (turned n b)
turned_is_block n b x = record {
  sixteen = length-turned n b;
  octets = λ i. ⊎_elim
      (λ l. subst (λ v. v < 256) (sym (at-turned n b i l)) (xor_lt 8 (slice_index b ((i + n) % 16)) 1 (x.octets ((i + n) % 16)) (omega arith)))
      (λ l. subst (λ v. v < 256) (sym (get_or_past (turned n b) i 0 (omega (arith, l, length-turned n b)))) (let z : 0 < 256 = omega arith in z))
      (cases_lt i 16);
}

turned_round : (n m : ℕ) (b : List ℕ) → n + m ≡ 16 → length b ≡ 16 → turned m (turned n b) ≡ b
turned_round n m b all h = ext_get_or 0 (turned m (turned n b)) b (length-turned m (turned n b) ∙ sym h) (λ i l.
    let k : i < 16 = subst (λ n. i < n) (length-turned m (turned n b)) l in
    at-turned m (turned n b) i k
    ∙ ap (λ v. bit_xor v 1) (at-turned n b ((i + m) % 16) (omega arith))
    ∙ xor_twice (slice_index b (((i + m) % 16 + n) % 16)) 1
    ∙ ap (slice_index b) (let e : ((i + m) % 16 + n) % 16 ≡ i = omega arith in e))

pub invariant_of-result : goal.invariant_of-result
invariant_of-result c = record {
  is_cipher = record {
    gives_block = turned_is_block 1;
    gives_block_back = turned_is_block 15;
    undoes = λ b x. turned_round 1 15 b (omega arith) x.sixteen;
    mirror = λ b x. turned_round 15 1 b (omega arith) x.sixteen;
  };
}
