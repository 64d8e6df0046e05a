use Rattle.std.proofs.Common.{ℕ, zero, suc, ◌+◌, ◌-◌, ◌<◌, ◌≤◌, List, [], ◌∷◌, length, map, fold, bit_xor, slice_index, arith}
use Rattle.std.proofs.lemmas.Nat.{xor_of_8}
use Rattle.std.specs.List.{range_with_len, concat}
use Rattle.octets.specs.Octets.{IsOctets, xor_octets}
use Rattle.prf.specs.HashFunction.{HashFunction, IsHashFunction}
use Rattle.prf.specs.Hmac.{hmac}
use Rattle.prf.specs.Pbkdf2.{iterate, derived_block, block_count, pbkdf2}
use Rattle.prf.specs.Code.Sha2Octets.{IsOctets-nil, IsOctets-append, IsOctets-take}
use Rattle.prf.proofs.laws.derived_key_is_octets.Goals as goal

IsOctets-map : (f : ℕ → ℕ) (xs : List ℕ) → ((x : ℕ) → f x < 256) → IsOctets (map f xs)
IsOctets-map f [] each i = IsOctets-nil i
IsOctets-map f (x ∷ xs) each zero = each x
IsOctets-map f (x ∷ xs) each (suc i) = IsOctets-map f xs each i

IsOctets-concat : (f : ℕ → List ℕ) (xs : List ℕ) → ((x : ℕ) → IsOctets (f x)) → IsOctets (concat (map f xs))
IsOctets-concat f [] each = IsOctets-nil
IsOctets-concat f (x ∷ xs) each = IsOctets-append (f x) (concat (map f xs)) (each x) (IsOctets-concat f xs each)

IsOctets-xor_octets : (x y : List ℕ) → IsOctets x → IsOctets y → IsOctets (xor_octets x y)
unfolding xor_octets
IsOctets-xor_octets x y a b =
    let sum = λ (i : ℕ). bit_xor (slice_index x i) (slice_index y i) in
    IsOctets-map sum (range_with_len 0 (length x)) (λ i. xor_of_8 (slice_index x i) (slice_index y i) (a i) (b i))

-- The sum of the first octet string and of n others, from number a on, is octets.
sum : (u : ℕ → List ℕ) → ((j : ℕ) → 1 ≤ j → IsOctets (u j)) → (first : List ℕ) → IsOctets first → (a n : ℕ) → 1 ≤ a
    → IsOctets (fold xor_octets first (map u (range_with_len a n)))
sum u each first octets a zero from = octets
sum u each first octets a (suc n) from =
    sum u each (xor_octets first (u a)) (IsOctets-xor_octets first (u a) octets (each a from)) (a + 1) n (omega arith)

module _ (f : HashFunction) (is : IsHashFunction f) (password salt : List ℕ) where
  iterates : (i j : ℕ) → 1 ≤ j → IsOctets (iterate f password salt i j)
  unfolding iterate hmac
  iterates i zero from = absurd (omega arith)
  iterates i (suc j) from = is.octets _

  blocks : (c i : ℕ) → IsOctets (derived_block f password salt c i)
  unfolding derived_block
  blocks c i =
      let one : 1 ≤ 1 = omega arith in
      sum (iterate f password salt i) (iterates i) (iterate f password salt i 1) (iterates i 1 one) 2 (c - 1) (omega arith)

  key : (c len : ℕ) → IsOctets (pbkdf2 f password salt c len)
  unfolding pbkdf2
  key c len =
      let t = derived_block f password salt c in
      let numbers = range_with_len 1 (block_count f len) in
      IsOctets-take len (concat (map t numbers)) (IsOctets-concat t numbers (blocks c))

pub returns : goal.returns
returns c = λ f password salt count len is. key f is password salt count len
