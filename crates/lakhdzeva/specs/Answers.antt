-- What the calls answer, in the words of the commands' definitions.
use Rattle.std.specs.Prelude.{ℕ, ◌+◌, ◌==◌, Bool, true, false, if◌then◌else◌, List, map, Option, Some, None, Result, Ok, Err}
use Rattle.std.specs.Option.{ok_or}
use Rattle.octets.specs.declared.refusal.Refusal.{Refusal}
use Rattle.octets.specs.declared.refusal.Refusal.TheVariants.{Usage}
use Rattle.octets.specs.Outcomes.{◌>>=◌}
use Rattle.octets.specs.Plan.{OutputTexts, plan_from, planned}
use Rattle.prf.specs.declared.digests.HashAlg.{HashAlg}
use Rattle.prf.specs.declared.digests.HashAlg.TheVariants.{S224, S256, S384, S512}
use Rattle.keys.specs.Keys.{OctetKey}
use Rattle.keys.specs.KeySets.{key_set}
use Rattle.keys.specs.Limits.{limits}
use Rattle.keys.specs.SetMembers.{key_members}
use Rattle.keys.specs.Thumbprints.{thp_answer}
use Rattle.objects.specs.Jws.{jws_of}
use Rattle.tokens.specs.Jws.{sig_answer}
use Rattle.tokens.specs.Jwe.{enc_answer}
use Rattle.tokens.specs.Judging.{KeyUses, uses_of}
use Rattle.tokens.specs.Verifying.{verified_by}

-- ---- arguments (docs/SPECIFICATION.md "Calls for C" 1)

-- the content that is handed in apart from its object, if it is
abbrev pub if_given : Bool → List ℕ → Option (List ℕ)
if_given true content = Some content
if_given false content = None

-- the hash that a number of bits means
abbrev pub hash_of_bits : ℕ → Option HashAlg
hash_of_bits bits =
    if bits == 224 then Some S224
    else (if bits == 256 then Some S256
    else (if bits == 384 then Some S384
    else (if bits == 512 then Some S512 else None)))

-- ---- answers (docs/SPECIFICATION.md "Calls for C" 1)

-- the thumbprints of the good keys of a text, one a line (docs/SPECIFICATION.md "Keys" 7)
abbrev pub thumbprints_answer : List ℕ → ℕ → Result (List ℕ) Refusal
thumbprints_answer keys bits = ok_or (hash_of_bits bits) Usage >>= λ hash. thp_answer hash keys

-- the text of the payload's object; a payload that is detached is not in it (docs/SPECIFICATION.md "Signing")
abbrev pub sign_answer : Bool → Bool → List ℕ → List ℕ → List ℕ → Result (List ℕ) Refusal
sign_answer compact detach keys template payload = do
  texts ← planned (sig_answer limits compact detach keys template) payload
  Ok texts.text

-- the text of the plaintext's object, and its ciphertext if this is detached, with octets from the front of the random ones
-- (docs/SPECIFICATION.md "Encrypting")
abbrev pub encrypt_answer : Bool → Bool → List ℕ → List ℕ → List ℕ → List ℕ → Result OutputTexts Refusal
encrypt_answer compact detach keys template random plaintext =
    planned (plan_from (enc_answer limits compact detach keys template) random) plaintext

-- ---- keys that are judged (docs/SPECIFICATION.md "Calls for C" 8)

abbrev pub if_so : Bool → ℕ → ℕ
if_so true n = n
if_so false n = 0

-- 16 for a good key, and 1, 2, 4 and 8 if it may sign, verify, encrypt and decrypt
abbrev pub good_number : KeyUses → ℕ
good_number uses = 16 + if_so uses.sign 1 + if_so uses.verify 2 + if_so uses.encrypt 4 + if_so uses.decrypt 8

-- the number of a member of a set, which is 0 if it is bad
abbrev pub member_number : Option OctetKey → ℕ
member_number None = 0
member_number (Some key) = good_number (uses_of key)

-- the numbers of the members of a text, in order
unfoldable pub judged_keys : List ℕ → Result (List ℕ) Refusal
judged_keys keys = do
  members ← key_members limits keys
  Ok (map member_number members)

-- ---- the key that verified (docs/SPECIFICATION.md "Calls for C" 9)

-- a payload, and the place of the key that signed it, from 0
pub record SignedPayload : Type 0 where
  pub payload : List ℕ
  pub signer : ℕ

-- the payload of the object and the place of the first key that verifies it, where each key of the text must be good
unfoldable pub signer_answer : List ℕ → List ℕ → Result SignedPayload Refusal
signer_answer keys object = do
  set ← key_set limits keys true
  o ← jws_of limits None object
  signer ← verified_by set o
  Ok (record { payload = o.payload; signer = signer })
