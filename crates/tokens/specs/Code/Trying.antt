-- The order in which pairs are tried, and what is known of earlier ones.
use Rattle.std.specs.Prelude.{◌≡◌, ℕ, ◌+◌, ◌<◌, ◌&&◌, Bool, nat_le, List, [], ◌∷◌, length, get_or, map, None, ⊤}
use Rattle.std.specs.List.{list_all}
use Rattle.ciphers.specs.Code.Salted.{Salted}
use Rattle.keys.specs.Keys.{OctetKey}
use Rattle.keys.specs.Code.Views.{key_view}
use Rattle.keys.specs.Limits.{limits}
use Rattle.objects.specs.Code.Frames.{sealed_with}
use Rattle.objects.specs.Jwe.{Recipient, EncryptedObject}
use Rattle.objects.specs.KeyManagement.{KeyManagement, Password}
use Rattle.tokens.specs.Decrypting.{Pair, SealedContent, algorithms_of, all_iterations, first_opened, iterations_of, pairs_of, pairs_with}
use Rattle.objects.specs.declared.jwe.recipient.Recipient.{Recipient as CodeRecipient}
use Rattle.objects.specs.Code.Views.{recipient_view}
use Rattle.tokens.specs.declared.decrypt.Work.{Work}
use Rattle.tokens.specs.declared.decrypt.salted.SaltedKeys.{SaltedKeys}
use Rattle.tokens.specs.Code.Views.{work_view}
use Rattle.tokens.specs.Code.Work.{WorkCounts, no_work, with_pairs}

-- the salt is that of the recipient, if its key is a password
abbrev pub IsSaltFor : List ℕ → KeyManagement → Type 0
IsSaltFor salt (Password p2s p2c) = salt ≡ p2s
IsSaltFor salt management = ⊤

-- the key with another salt
abbrev pub salted_with : List ℕ → Salted → Salted
salted_with p2s s = record { key = s.key; p2s = p2s }

abbrev pub salted_by : List ℕ → OctetKey → Salted
salted_by p2s key = record { key = key.octets; p2s = p2s }

-- each key is salted, in order, with one salt
abbrev pub AreSalted : SaltedKeys → Type 0
AreSalted s = s.salted.items ≡ map (salted_by s.p2s.now) (map key_view s.keys.now)

-- Both recipients have the same pairs, but for what these do not read.
pub record OpenAlike (a b : Recipient) : Type 0 where
  pub algorithms : algorithms_of limits.management a ≡ algorithms_of limits.management b
  pub management : a.management ≡ b.management
  pub encrypted_key : a.encrypted_key ≡ b.encrypted_key

-- the pair, if its key is a candidate
abbrev pub pair_if_candidate : Pair → List Pair
pair_if_candidate pair = pairs_with pair.recipient pair.algorithms (pair.key ∷ [])

-- the object with this ciphertext
abbrev pub with_ciphertext : List ℕ → EncryptedObject → EncryptedObject
with_ciphertext ciphertext o = sealed_with o ciphertext o.tag

-- the iterations of each pair are within the limit, and those of all pairs with the earlier ones are at most so many
abbrev pub within_to : ℕ → ℕ → List Pair → Bool
within_to most before pairs =
    list_all (λ pair. nat_le (iterations_of pair) limits.greatest_p2c_read) pairs && nat_le (before + all_iterations pairs) most

-- the iterations of each pair, and those of all pairs with the earlier ones, are within the limits
abbrev pub within_after : ℕ → List Pair → Bool
within_after = within_to limits.p2c_sum

-- the pairs of a recipient open nothing, by this work
pub record WasTried (s : SealedContent) (keys : List OctetKey) (work : WorkCounts) (r : Recipient) : Type 0 where
  pub none : first_opened s (pairs_of limits.management keys r) ≡ None
  pub counted : work ≡ with_pairs s no_work (pairs_of limits.management keys r)

-- so it is for each of these recipients, by the work at its index
abbrev pub AreTried : SealedContent → List OctetKey → List Work → List CodeRecipient → Type 0
AreTried s keys works recipients =
    (j : ℕ) (work : Work) (r : CodeRecipient) → j < length recipients → work ≡ get_or works j work → r ≡ get_or recipients j r
    → WasTried s keys (work_view work) (recipient_view r)
