-- Key management (RFC 7518 section 4): how a recipient's key delivers the content encryption key, by the algorithm and the parameters of a
-- joint header.
use Rattle.std.specs.Prelude.{ℕ, nat_le, List, codes, Option, Some, None, Result, Ok}
use Rattle.std.specs.Option.{ok_or}
use Rattle.serde_json.specs.Data.{Members}
use Rattle.octets.specs.declared.refusal.Refusal.{Refusal}
use Rattle.octets.specs.declared.refusal.Refusal.TheVariants.{Header}
use Rattle.octets.specs.Outcomes.{◌>>=◌, needs}
use Rattle.ciphers.specs.declared.key_alg.KeyAlg.{KeyAlg}
use Rattle.ciphers.specs.declared.key_alg.KeyManagementMode.{KeyManagementMode}
use Rattle.ciphers.specs.declared.key_alg.KeyManagementMode.TheVariants as mode
use Rattle.ciphers.specs.Algorithms.{management_alg_among, mode_of}
use Rattle.objects.specs.Headers.{number_parameter, salt_parameter, octets_parameter}

-- How a recipient's key delivers the content encryption key, with the header parameters that its algorithm reads. See RFC 7518 section 4.1.
pub data KeyManagement : Type 0 where
  -- an algorithm that is not known; none of its parameters is read
  Unknown : KeyManagement
  -- the key is the content encryption key (section 4.5)
  Direct : KeyManagement
  -- AES key wrap (section 4.4)
  KeyWrap : KeyManagement
  -- key wrap with a key that is derived from a password: the salt input p2s of 8 octets or more, and the count p2c of 1 or more (section
  -- 4.8.1)
  Password : List ℕ → ℕ → KeyManagement
  -- key wrap by AES in GCM: the initialization vector iv and the tag, of any lengths (section 4.7.1)
  GcmKeyWrap : List ℕ → List ℕ → KeyManagement

-- the parameters of a password (section 4.8.1)
unfoldable pub password_management : Members → Result KeyManagement Refusal
password_management header = do
  salt ← salt_parameter (codes "p2s") header
  p2s ← ok_or salt Header
  count ← number_parameter (codes "p2c") header
  p2c ← ok_or count Header
  some ← needs (nat_le 1 p2c) Header
  Ok (Password p2s p2c)

-- the parameters of a key wrap by AES in GCM (section 4.7.1)
unfoldable pub gcm_management : Members → Result KeyManagement Refusal
gcm_management header = do
  iv_if_there ← octets_parameter (codes "iv") header
  iv ← ok_or iv_if_there Header
  tag_if_there ← octets_parameter (codes "tag") header
  tag ← ok_or tag_if_there Header
  Ok (GcmKeyWrap iv tag)

-- what a header says, by the mode of its algorithm (RFC 7518 sections 4.4, 4.5, 4.7.1 and 4.8.1)
abbrev pub management_in : KeyManagementMode → Members → Result KeyManagement Refusal
management_in mode.Direct header = Ok Direct
management_in mode.KeyWrap header = Ok KeyWrap
management_in mode.Password header = password_management header
management_in mode.GcmKeyWrap header = gcm_management header

-- what a header says, by its algorithm (RFC 7518 section 4.1)
abbrev pub management_by : Option KeyAlg → Members → Result KeyManagement Refusal
management_by None header = Ok Unknown
management_by (Some alg) header = management_in (mode_of alg) header

-- what a header says, by the name of its algorithm among those that are known (RFC 7518 section 4.1, docs/SPECIFICATION.md "Objects" 3)
abbrev pub key_management : List KeyAlg → List ℕ → Members → Result KeyManagement Refusal
key_management algs alg header = management_by (management_alg_among algs alg) header
