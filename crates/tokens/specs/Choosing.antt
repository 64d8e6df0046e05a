-- What a template and keys settle before anything is drawn: the keys that receive the content encryption key, the algorithms, and the
-- headers but for what is drawn.
use Rattle.std.specs.Prelude.{ℕ, zero, suc, ◌*◌, ◌==◌, ◌&&◌, ◌||◌, Bool, true, false, not, nat_le, List, [], ◌∷◌, length, codes, is_some, if◌then◌else◌, Option, Some, None, option_map, option_and_then, Result, Ok, Err}
use Rattle.std.specs.List.{find, list_all, list_any}
use Rattle.std.specs.Option.{ok_or, option_or, unwrap_or}
use Rattle.serde_json.specs.Data.{Members, unsigned, number, string, put}
use Rattle.octets.specs.declared.refusal.Refusal.{Refusal}
use Rattle.octets.specs.declared.refusal.Refusal.TheVariants.{Header, NoAlgorithm, KeyDoesNotFit, Limit, NotCompact}
use Rattle.octets.specs.Outcomes.{◌>>=◌, needs}
use Rattle.keys.specs.declared.algorithm.Algorithm.TheVariants.{Encryption as EncryptionWith}
use Rattle.ciphers.specs.declared.content_alg.ContentAlg.{ContentAlg}
use Rattle.ciphers.specs.declared.key_alg.KeyAlg.{KeyAlg}
use Rattle.ciphers.specs.declared.key_alg.KeyAlg.TheVariants.{Dir, A128Kw, A192Kw, A256Kw}
use Rattle.ciphers.specs.declared.key_alg.KeyManagementMode.{KeyManagementMode}
use Rattle.ciphers.specs.declared.key_alg.KeyManagementMode.TheVariants as mode
use Rattle.ciphers.specs.Algorithms.{encryption_name, management_alg_of, encryption_alg_of, mode_of, kek_len, is_password_based}
use Rattle.ciphers.specs.Sealing.{cbc_alg_with}
use Rattle.keys.specs.Algorithms.{management_operations}
use Rattle.keys.specs.Json.{json_value}
use Rattle.keys.specs.Keys.{OctetKey, allows, fits}
use Rattle.keys.specs.Limits.{Limits}
use Rattle.objects.specs.Texts.{each}
use Rattle.tokens.specs.EncryptionTemplate.{EncryptionTemplate, encryption_template}
use Rattle.tokens.specs.Template.{is_shallow, is_empty}

-- ---- the algorithms of a key (docs/SPECIFICATION.md "Encrypting" 2 and 3)

-- the one whose keys have n octets
abbrev pub management_by_length : ℕ → Option KeyAlg
management_by_length n = find (λ alg. n == kek_len alg) (A128Kw ∷ A192Kw ∷ A256Kw ∷ [])

-- the one that its `alg` names, where the name of a content encryption asks for direct use
abbrev pub management_by_name : Option KeyAlg → Option ContentAlg → Option KeyAlg
management_by_name management enc = option_or management (option_map (λ alg. Dir) enc)

abbrev pub management_of_key : Option (List ℕ) → ℕ → Result KeyAlg Refusal
management_of_key None n = ok_or (management_by_length n) NoAlgorithm
management_of_key (Some name) n = ok_or (management_by_name (management_alg_of name) (encryption_alg_of name)) KeyDoesNotFit

-- that of the template, or that of the key
abbrev pub chosen_management : Option KeyAlg → OctetKey → Result KeyAlg Refusal
chosen_management (Some alg) key = Ok alg
chosen_management None key = management_of_key key.alg (length key.octets)

-- the one in CBC mode whose AES key, half of the content encryption key, is as long as the key of the wrap, of n octets
abbrev pub encryption_by_wrap : ℕ → Option ContentAlg
encryption_by_wrap n = cbc_alg_with (2 * n)

-- the one that goes with key management
abbrev pub encryption_in : KeyManagementMode → ℕ → OctetKey → Option ContentAlg
encryption_in mode.Direct n key = option_or (option_and_then encryption_alg_of key.alg) (cbc_alg_with (length key.octets))
encryption_in mode.KeyWrap n key = encryption_by_wrap n
encryption_in mode.Password n key = encryption_by_wrap n
encryption_in mode.GcmKeyWrap n key = encryption_by_wrap n

-- that of the template, or else the one that goes with key management
abbrev pub chosen_encryption : Option ContentAlg → KeyAlg → OctetKey → Result ContentAlg Refusal
chosen_encryption (Some enc) alg key = Ok enc
chosen_encryption None alg key = ok_or (encryption_in (mode_of alg) (kek_len alg) key) NoAlgorithm

-- ---- the recipient keys (docs/SPECIFICATION.md "Encrypting" 2 to 4)

-- a key, and the algorithm by which it receives the content encryption key
pub record RecipientKey : Type 0 where
  pub key : OctetKey
  pub management : KeyAlg

unfoldable pub recipient_key_by : Option KeyAlg → OctetKey → Result RecipientKey Refusal
recipient_key_by asked key = do
  management ← chosen_management asked key
  Ok (record { key = key; management = management })

abbrev pub is_direct_in : KeyManagementMode → Bool
is_direct_in mode.Direct = true
is_direct_in mode.KeyWrap = false
is_direct_in mode.Password = false
is_direct_in mode.GcmKeyWrap = false

-- the key is the content encryption key (RFC 7518 section 4.5)
abbrev pub is_direct : KeyAlg → Bool
is_direct alg = is_direct_in (mode_of alg)

abbrev pub is_alone : List RecipientKey → Bool
is_alone recipient_keys = nat_le (length recipient_keys) 1

-- a key that is used directly is the only one
abbrev pub direct_key_is_alone : List RecipientKey → Bool
direct_key_is_alone recipient_keys = is_alone recipient_keys || not (list_any (λ r. is_direct r.management) recipient_keys)

-- the content encryption of the template, or the one that goes with the first recipient key
abbrev pub encryption_for : Option ContentAlg → List RecipientKey → Result ContentAlg Refusal
encryption_for asked [] = Err NoAlgorithm
encryption_for asked (r ∷ rest) = chosen_encryption asked r.management r.key

-- the key may encrypt, and fits
abbrev pub may_encrypt : ContentAlg → RecipientKey → Bool
may_encrypt encryption r = allows r.key (management_operations r.management).0 && fits r.key (EncryptionWith r.management encryption)

-- ---- the iterations of PBKDF2 (RFC 7518 section 4.8.1.2, docs/SPECIFICATION.md "Encrypting" 4, 5 and 7)

-- how many recipient keys are passwords
abbrev pub password_count : List RecipientKey → ℕ
password_count [] = 0
password_count (r ∷ rest) = if is_password_based r.management then suc (password_count rest) else password_count rest

-- the iterations for n passwords: those of the template, or else the usual number
abbrev pub chosen_p2c : Limits → ℕ → Result (Option ℕ) Refusal → Result ℕ Refusal
chosen_p2c limits zero asked = Ok 0
chosen_p2c limits (suc n) (Err refusal) = Err refusal
chosen_p2c limits (suc n) (Ok p2c) = Ok (unwrap_or p2c limits.usual_p2c)

-- as many as may be written, and for n passwords together not too many
abbrev pub p2c_may_be_written : Limits → ℕ → ℕ → Bool
p2c_may_be_written limits zero p2c = true
p2c_may_be_written limits (suc n) p2c = nat_le limits.least_p2c p2c && (nat_le p2c limits.greatest_p2c && nat_le (suc n * p2c) limits.p2c_sum)

-- ---- the headers (docs/SPECIFICATION.md "Encrypting" 7)

-- the header with a parameter, where the template does not name its algorithm
abbrev pub with_name : Bool → List ℕ → List ℕ → Members → Members
with_name true parameter name header = header
with_name false parameter name header = put parameter (string name) header

-- the header with the iterations, where they are needed and the template does not give them
abbrev pub with_p2c : Bool → ℕ → Members → Members
with_p2c true p2c header = header
with_p2c false p2c header = put (codes "p2c") (number (unsigned p2c)) header

-- The template has a count of iterations. One that is no whole number counts too: it stays in the header, where no algorithm reads it.
abbrev pub is_given : Result (Option ℕ) Refusal → Bool
is_given (Ok p2c) = is_some p2c
is_given (Err refusal) = true

-- ---- what a template and keys settle (docs/SPECIFICATION.md "Encrypting" 2 to 5)

-- What the template gives of key management, and so is written for no recipient: the name of its algorithm, and the iterations.
pub record Given : Type 0 where
  pub alg : Bool
  pub p2c : Bool

-- The content encryption, the recipient keys in order, and the iterations, which are 0 where no key is a password; the headers, but for
-- what is written for the recipients; and the additional data.
pub record EncryptionPlan : Type 0 where
  pub encryption : ContentAlg
  pub recipient_keys : List RecipientKey
  pub given : Given
  pub p2c : ℕ
  pub protected : Members
  pub unprotected : Members
  pub aad : List ℕ

-- a compact text has one recipient, no unprotected header and no `aad` (RFC 7516 section 7.1)
abbrev pub compact_has_room : Bool → List RecipientKey → EncryptionTemplate → Bool
compact_has_room compact recipient_keys t = if compact then is_alone recipient_keys && (is_empty t.unprotected && (length t.aad == 0)) else true

-- Each step is taken for every key before the next.
unfoldable pub settle_encryption : Limits → Bool → List OctetKey → EncryptionTemplate → Result EncryptionPlan Refusal
settle_encryption limits compact keys t = do
  recipient_keys ← each (recipient_key_by t.asked.management) keys
  together ← needs (direct_key_is_alone recipient_keys) Header
  encryption ← encryption_for t.asked.encryption recipient_keys
  fit ← needs (list_all (may_encrypt encryption) recipient_keys) KeyDoesNotFit
  p2c ← chosen_p2c limits (password_count recipient_keys) t.asked.p2c
  shallow ← needs (is_shallow limits t.protected && is_shallow limits t.unprotected) Limit
  written ← needs (p2c_may_be_written limits (password_count recipient_keys) p2c) Limit
  alone ← needs (compact_has_room compact recipient_keys t) NotCompact
  Ok (record {
    encryption = encryption;
    recipient_keys = recipient_keys;
    given = record { alg = is_some t.asked.management; p2c = is_given t.asked.p2c };
    p2c = p2c;
    protected = with_name (is_some t.asked.encryption) (codes "enc") (encryption_name encryption) t.protected;
    unprotected = t.unprotected;
    aad = t.aad;
  })

-- the plan of keys and a template's text, or the first refusal
unfoldable pub read_encryption : Limits → Bool → List OctetKey → List ℕ → Result EncryptionPlan Refusal
read_encryption limits compact keys text = do
  value ← json_value text
  template ← encryption_template value
  settle_encryption limits compact keys template
