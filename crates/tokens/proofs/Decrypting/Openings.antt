-- The plaintext that a pair opens follows from the contracts of its ciphers.
use Rattle.std.proofs.Common.{◌≡◌, ◌↔◌, ℕ, ◌≤◌, true, List, [], ◌∷◌, length, map, Option, Some, None, IfSome, IfNone, option_map, option_and_then, cond, take, refl, sym, ap, ◌∙◌}
use Rattle.std.specs.Option.{option_or}
use Rattle.octets.specs.Octets.{IsOctets}
use Rattle.ciphers.specs.declared.content_alg.ContentAlg.{ContentAlg}
use Rattle.ciphers.specs.declared.key_alg.KeyAlg.{KeyAlg}
use Rattle.ciphers.specs.Delivery.{Parameters, IsDelivered}
use Rattle.ciphers.specs.Openings.{delivered, opening, DeliversExactly, OpensExactly}
use Rattle.ciphers.specs.Sealing.{IsOpening}
use Rattle.keys.specs.Keys.{OctetKey}
use Rattle.tokens.specs.Decrypting.{Pair, SealedContent, cek_of, opened_by, first_opened, is_candidate}
use Rattle.tokens.specs.Code.Trying.{pair_if_candidate}

-- If a result is right whenever it is there, and absent only if nothing is right, it is the option with exactly the right value.
found : {X : Type 0} (P : X → Type 0) (o r : Option X) → ((x : X) → P x → o ≡ Some x) → ((x : X) → o ≡ Some x → P x) → IfSome r P
    → IfNone r ((x : X) → P x → ⊥) → r ≡ o
found P o (Some x) to back some none = sym (to x some)
found P None None to back some none = refl
found P (Some x) None to back some none = absurd (none x (back x refl))

-- A call that unwraps returns the key that is delivered.
pub delivers : DeliversExactly → (alg : KeyAlg) (enc : ContentAlg) (key : List ℕ) (p : Parameters) (encrypted : List ℕ) (result : Option (List ℕ))
    → IsOctets key
    → IfSome result (IsDelivered alg enc key p encrypted) → IfNone result ((cek : List ℕ) → IsDelivered alg enc key p encrypted cek → ⊥)
    → result ≡ delivered alg enc key p encrypted
delivers exactly alg enc key p encrypted result octets some none =
    let law : (cek : List ℕ) → (delivered alg enc key p encrypted ≡ Some cek) ↔ IsDelivered alg enc key p encrypted cek =
    λ cek. exactly alg enc key p encrypted cek octets in
    found (IsDelivered alg enc key p encrypted) (delivered alg enc key p encrypted) result (λ cek. (law cek).1) (λ cek. (law cek).0) some none

-- If something holds of the first n octets for a length n that is there, it holds of the octets that are there.
some_of : (P : List ℕ → Type 0) (most : ℕ) (r : Option ℕ) (now : List ℕ) → IfSome r (λ n. (n ≤ most) × P (take n now))
    → IfSome (option_map (λ n. take n now) r) P
some_of P most (Some n) now h = h.1
some_of P most None now h = tt

-- If something holds when no length is there, it holds when no octets are there.
none_of : (P : Type 0) (r : Option ℕ) (now : List ℕ) → IfNone r P → IfNone (option_map (λ n. take n now) r) P
none_of P (Some n) now h = tt
none_of P None now h = h

-- A call that opens returns the opening.
pub opens : OpensExactly → (alg : ContentAlg) (cek iv aad c tag now : List ℕ) (result : Option ℕ) → IsOctets cek → IsOctets iv
    → IfSome result (λ n. (n ≤ length c) × IsOpening alg cek iv aad c tag (take n now)) → IfNone result ((p : List ℕ) → IsOpening alg cek iv aad c tag p → ⊥)
    → option_map (λ n. take n now) result ≡ opening alg cek iv aad c tag
opens exactly alg cek iv aad c tag now result cek_octets iv_octets some none =
    let law : (p : List ℕ) → (opening alg cek iv aad c tag ≡ Some p) ↔ IsOpening alg cek iv aad c tag p =
    λ p. exactly alg cek iv aad c tag p cek_octets iv_octets in
    found (IsOpening alg cek iv aad c tag) (opening alg cek iv aad c tag) (option_map (λ n. take n now) result) (λ p. (law p).1) (λ p. (law p).0)
    (some_of _ _ result now some) (none_of _ result now none)

-- A pair opens the plaintext with the content encryption key that it delivers.
pub opened_with : (s : SealedContent) (pair : Pair) (cek : List ℕ) → cek_of pair ≡ Some cek
    → opening pair.algorithms.encryption cek s.iv s.aad s.ciphertext s.tag ≡ opened_by s pair
unfolding opened_by
opened_with s pair cek h = ap (option_and_then (λ cek. opening pair.algorithms.encryption cek s.iv s.aad s.ciphertext s.tag)) (sym h)

-- ---- a pair whose key is a candidate

module _ (pair : Pair) (is : is_candidate pair.algorithms pair.key ≡ true) where
  abbrev pair_with : OctetKey → Pair
  pair_with key = record { recipient = pair.recipient; algorithms = pair.algorithms; key = key }

  pub alone : pair_if_candidate pair ≡ pair ∷ []
  alone = ap (λ b. map pair_with (cond b (pair.key ∷ []) [])) is

  -- It opens what the pair opens.
  pub opened_alone : (s : SealedContent) → first_opened s (pair_if_candidate pair) ≡ opened_by s pair
  opened_alone s = ap (first_opened s) alone ∙ or_none (opened_by s pair)
    where
      or_none : (o : Option (List ℕ)) → option_or o None ≡ o
      or_none None = refl
      or_none (Some x) = refl
