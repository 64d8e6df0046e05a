-- The delivery of a content encryption key to recipients (RFC 7516 section 5.1, steps 4 to 6).
use Rattle.std.specs.Prelude.{ℕ, ◌+◌, List, [], ◌∷◌, take, drop}
use Rattle.ciphers.specs.Delivery.{key_iv_len, Parameters, encrypted_key_of, key_tag_of}
use Rattle.ciphers.specs.declared.key_alg.KeyAlg.{KeyAlg}
use Rattle.ciphers.specs.declared.key_alg.KeyManagementMode.{KeyManagementMode}
use Rattle.ciphers.specs.declared.key_alg.KeyManagementMode.TheVariants as mode
use Rattle.ciphers.specs.Algorithms.{mode_of}
use Rattle.objects.specs.KeyManagement.{KeyManagement, Direct, KeyWrap, Password, GcmKeyWrap}
use Rattle.tokens.specs.Choosing.{RecipientKey, EncryptionPlan}

-- ---- what is drawn for the recipients (docs/SPECIFICATION.md "Encrypting" 6)

-- the length of a salt input in octets (RFC 7518 section 4.8.1.1)
abbrev pub salt_len : ℕ
salt_len = 16

-- how many octets are drawn for an algorithm: those of a salt input for PBES2, or of an initialization vector for AES-GCM key wrap
abbrev pub drawn_in : KeyManagementMode → ℕ
drawn_in mode.Direct = 0
drawn_in mode.KeyWrap = 0
drawn_in mode.Password = salt_len
drawn_in mode.GcmKeyWrap = key_iv_len

abbrev pub drawn_by : KeyAlg → ℕ
drawn_by alg = drawn_in (mode_of alg)

-- how many octets are drawn for a recipient
abbrev pub drawn_for : RecipientKey → ℕ
drawn_for r = drawn_by r.management

-- how many octets are drawn for all recipients
abbrev pub drawn_for_all : List RecipientKey → ℕ
drawn_for_all [] = 0
drawn_for_all (r ∷ rest) = drawn_for r + drawn_for_all rest

-- ---- the deliveries (RFC 7516 section 5.1, steps 4 to 6 and 8)

-- The parameters by which a recipient's key encrypts the content encryption key. What is drawn is the IV for AES-GCM key wrap and the salt
-- input for PBES2, and each algorithm reads its own.
abbrev pub parameters_with : List ℕ → ℕ → Parameters
parameters_with drawn p2c = record { iv = drawn; tag = []; p2s = drawn; p2c = p2c }

-- how the recipient's key then delivers the content encryption key, with the tag that was made
abbrev pub delivered_in : KeyManagementMode → List ℕ → ℕ → List ℕ → KeyManagement
delivered_in mode.Direct drawn p2c tag = Direct
delivered_in mode.KeyWrap drawn p2c tag = KeyWrap
delivered_in mode.Password drawn p2c tag = Password drawn p2c
delivered_in mode.GcmKeyWrap drawn p2c tag = GcmKeyWrap drawn tag

abbrev pub management_with : KeyAlg → List ℕ → ℕ → List ℕ → KeyManagement
management_with alg drawn p2c tag = delivered_in (mode_of alg) drawn p2c tag

-- an encrypted key, and how it delivers the content encryption key
pub record Delivery : Type 0 where
  pub alg : KeyAlg
  pub management : KeyManagement
  pub encrypted_key : List ℕ

-- the delivery to a recipient, with the octets that are drawn for it
abbrev pub delivery_to : EncryptionPlan → List ℕ → RecipientKey → List ℕ → Delivery
delivery_to e cek r drawn = record {
  alg = r.management;
  management = management_with r.management drawn e.p2c (key_tag_of r.management r.key.octets (parameters_with drawn e.p2c) cek);
  encrypted_key = encrypted_key_of r.management r.key.octets (parameters_with drawn e.p2c) cek;
}

-- the deliveries to recipients, in order; their octets follow one another
abbrev pub deliveries_to : EncryptionPlan → List ℕ → List RecipientKey → List ℕ → List Delivery
deliveries_to e cek [] drawn = []
deliveries_to e cek (r ∷ rest) drawn = delivery_to e cek r (take (drawn_for r) drawn) ∷ deliveries_to e cek rest (drop (drawn_for r) drawn)
