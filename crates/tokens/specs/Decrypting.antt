-- Decrypting (RFC 7516 section 5.2): the pairs of a recipient and a key that are tried, what they open, and the work.
use Rattle.std.specs.Prelude.{◌≡◌, ◌⊎◌, ℕ, ◌+◌, ◌&&◌, Bool, true, false, nat_le, min, List, [], ◌∷◌, ◌++◌, map, is_some, Option, Some, None, option_and_then, Result, Ok, Err}
use Rattle.std.specs.List.{filter, list_all, list_any}
use Rattle.std.specs.Option.{ok_or, option_or}
use Rattle.std.specs.Str.{byte}
use Rattle.octets.specs.declared.refusal.Refusal.{Refusal}
use Rattle.octets.specs.declared.refusal.Refusal.TheVariants.{Unsupported, KeyDoesNotFit, Limit, NotOpened}
use Rattle.octets.specs.Outcomes.{◌>>=◌, needs}
use Rattle.octets.specs.Base64url.{base64url}
use Rattle.ciphers.specs.Openings.{opening, delivered}
use Rattle.keys.specs.declared.algorithm.Algorithm.TheVariants.{Encryption}
use Rattle.ciphers.specs.declared.content_alg.ContentAlg.{ContentAlg}
use Rattle.ciphers.specs.declared.key_alg.KeyAlg.{KeyAlg}
use Rattle.ciphers.specs.Algorithms.{management_alg_among, encryption_alg_of}
use Rattle.keys.specs.Algorithms.{management_operations}
use Rattle.keys.specs.Keys.{OctetKey, allows, fits}
use Rattle.keys.specs.Limits.{Limits, limits}
use Rattle.objects.specs.Jwe.{Recipient, EncryptedObject}
use Rattle.objects.specs.KeyManagement.{KeyManagement, Unknown, Direct, KeyWrap, Password, GcmKeyWrap}
use Rattle.tokens.specs.Algorithms.{Algorithms, parameters_by}

-- ---- the pairs that are tried (RFC 7516 section 5.2, steps 6, 7 and 13, and docs/SPECIFICATION.md "Decrypting" 2)

abbrev pub algorithms_by : Option KeyAlg → Option ContentAlg → Option Algorithms
algorithms_by None enc = None
algorithms_by (Some alg) None = None
algorithms_by (Some alg) (Some enc) = Some (record { management = alg; encryption = enc })

-- the algorithms of a recipient, if both are supported
unfoldable pub algorithms_of : List KeyAlg → Recipient → Option Algorithms
algorithms_of algs r = algorithms_by (management_alg_among algs r.alg) (encryption_alg_of r.enc)

-- the key may decrypt by the algorithms, and fits
unfoldable pub is_candidate : Algorithms → OctetKey → Bool
is_candidate a key = allows key (management_operations a.management).1 && fits key (Encryption a.management a.encryption)

pub record Pair : Type 0 where
  pub recipient : Recipient
  pub algorithms : Algorithms
  pub key : OctetKey

-- the pairs of a recipient with these algorithms, by the keys in order
abbrev pub pairs_with : Recipient → Algorithms → List OctetKey → List Pair
pairs_with r a keys = map (λ key. record { recipient = r; algorithms = a; key = key }) (filter (is_candidate a) keys)

abbrev pub pairs_by : List OctetKey → Recipient → Option Algorithms → List Pair
pairs_by keys r None = []
pairs_by keys r (Some a) = pairs_with r a keys

abbrev pub pairs_of : List KeyAlg → List OctetKey → Recipient → List Pair
pairs_of algs keys r = pairs_by keys r (algorithms_of algs r)

-- the pairs of the recipients, in order
abbrev pub all_pairs : List KeyAlg → List OctetKey → List Recipient → List Pair
all_pairs algs keys [] = []
all_pairs algs keys (r ∷ recipients) = pairs_of algs keys r ++ all_pairs algs keys recipients

abbrev pub has_pairs : List Pair → Bool
has_pairs [] = false
has_pairs (pair ∷ pairs) = true

-- the iterations of PBKDF2 for a recipient (RFC 7518 section 4.8.1.2), which are 0 unless its key is a password
abbrev pub iterations_by : KeyManagement → ℕ
iterations_by Unknown = 0
iterations_by Direct = 0
iterations_by KeyWrap = 0
iterations_by (Password p2s p2c) = p2c
iterations_by (GcmKeyWrap iv tag) = 0

-- the iterations for a pair
abbrev pub iterations_of : Pair → ℕ
iterations_of pair = iterations_by pair.recipient.management

abbrev pub all_iterations : List Pair → ℕ
all_iterations [] = 0
all_iterations (pair ∷ pairs) = iterations_of pair + all_iterations pairs

-- the iterations of each pair, and of all together, are within the limits
abbrev pub are_within : Limits → List Pair → Bool
are_within limits pairs =
    list_all (λ pair. nat_le (iterations_of pair) limits.greatest_p2c_read) pairs && nat_le (all_iterations pairs) limits.p2c_sum

-- the limits for a caller who allows so many iterations over all pairs, if these are fewer
abbrev pub with_iterations : ℕ → Limits → Limits
with_iterations most limits = record {
  keys = limits.keys;
  key_octets = limits.key_octets;
  depth = limits.depth;
  recipients = limits.recipients;
  greatest_p2c_read = limits.greatest_p2c_read;
  least_p2c = limits.least_p2c;
  greatest_p2c = limits.greatest_p2c;
  usual_p2c = limits.usual_p2c;
  p2c_sum = min most limits.p2c_sum;
  management = limits.management;
}

-- the pairs, if some recipient's algorithms are supported, some key is a candidate, and the iterations are within the limits
unfoldable pub pairs_to_try : Limits → List OctetKey → List Recipient → Result (List Pair) Refusal
pairs_to_try limits keys recipients = do
  supported ← needs (list_any (λ r. is_some (algorithms_of limits.management r)) recipients) Unsupported
  candidates ← needs (has_pairs (all_pairs limits.management keys recipients)) KeyDoesNotFit
  few ← needs (are_within limits (all_pairs limits.management keys recipients)) Limit
  Ok (all_pairs limits.management keys recipients)

-- ---- what a pair opens (RFC 7516 section 5.2, steps 9 to 18, and docs/SPECIFICATION.md "Decrypting" 3 and 4)

-- the text of the protected header and, if there is an `aad`, a dot and its base64url text (step 15)
abbrev pub additional_authenticated_data : List ℕ → List ℕ → List ℕ
additional_authenticated_data protected [] = protected
additional_authenticated_data protected (a ∷ aad) = protected ++ (byte "." ∷ base64url (a ∷ aad))

-- what an object has of its content
pub record SealedContent : Type 0 where
  pub iv : List ℕ
  pub aad : List ℕ
  pub ciphertext : List ℕ
  pub tag : List ℕ

abbrev pub sealed_content : EncryptedObject → SealedContent
sealed_content o = record { iv = o.iv; aad = additional_authenticated_data o.protected o.aad; ciphertext = o.ciphertext; tag = o.tag }

-- the content encryption key that the recipient's encrypted key delivers (steps 9 to 11)
unfoldable pub cek_of : Pair → Option (List ℕ)
cek_of pair =
    delivered pair.algorithms.management pair.algorithms.encryption pair.key.octets
    (parameters_by pair.recipient.management) pair.recipient.encrypted_key

-- the plaintext under this key (step 16)
unfoldable pub opened_by : SealedContent → Pair → Option (List ℕ)
opened_by s pair = option_and_then (λ cek. opening pair.algorithms.encryption cek s.iv s.aad s.ciphertext s.tag) (cek_of pair)

-- the plaintext of the first pair that opens
abbrev pub first_opened : SealedContent → List Pair → Option (List ℕ)
first_opened s [] = None
first_opened s (pair ∷ pairs) = option_or (opened_by s pair) (first_opened s pairs)

-- the plaintext of the object, or the first refusal (step 18)
unfoldable pub decrypted : Limits → List OctetKey → EncryptedObject → Result (List ℕ) Refusal
decrypted limits keys o = do
  pairs ← pairs_to_try limits keys o.recipients
  ok_or (first_opened (sealed_content o) pairs) NotOpened

-- ---- fewer iterations (docs/SPECIFICATION.md "Calls for C" 6)

-- A caller who allows fewer iterations gets the same answer, or Limit.
abbrev pub FewerIterationsRefuse : Type 0
FewerIterationsRefuse = (most : ℕ) (keys : List OctetKey) (o : EncryptedObject)
    → (decrypted (with_iterations most limits) keys o ≡ decrypted limits keys o) ⊎ (decrypted (with_iterations most limits) keys o ≡ Err Limit)
