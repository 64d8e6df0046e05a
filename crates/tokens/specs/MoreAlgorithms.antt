-- What stays as it is if more algorithms of key management are known: every object whose recipients name none of the further ones, or name
-- algorithms that are known without them.
use Rattle.std.specs.Prelude.{◌≡◌, ◌↔◌, ◌||◌, ℕ, not, is_some, true, false, Bool, List, ◌++◌, take, Option, Ok}
use Rattle.std.specs.List.{filter, list_all}
use Rattle.ciphers.specs.declared.key_alg.KeyAlg.{KeyAlg}
use Rattle.ciphers.specs.declared.key_alg.KeyManagementMode.{KeyManagementMode}
use Rattle.ciphers.specs.declared.key_alg.KeyManagementMode.TheVariants.{GcmKeyWrap}
use Rattle.ciphers.specs.Algorithms.{management_algs, management_alg_among, mode_of}
use Rattle.keys.specs.Keys.{OctetKey}
use Rattle.keys.specs.Limits.{Limits}
use Rattle.objects.specs.Jwe.{EncryptedObject, jwe_of}
use Rattle.objects.specs.Jws.{SignedObject, jws_of}
use Rattle.tokens.specs.Decrypting.{decrypted}

-- ---- the numbers and algorithms before 2.0.0 (today's: docs/SPECIFICATION.md "Keys" to "Encrypting")

-- the numbers, with the algorithms of today
abbrev pub earlier_limits : Limits
earlier_limits = record {
  keys = 64;
  key_octets = 4096;
  depth = 64;
  recipients = 64;
  greatest_p2c_read = 1000000;
  least_p2c = 1000;
  greatest_p2c = 1000000;
  usual_p2c = 10000;
  p2c_sum = 4000000;
  management = management_algs;
}

-- the algorithms: direct use, AES key wrap and PBES2 (RFC 7518 sections 4.4, 4.5 and 4.8)
abbrev pub earlier_management_algs : List KeyAlg
earlier_management_algs = take 7 management_algs

-- those that came with 2.0.0: key wrap by AES in GCM (RFC 7518 section 4.7)
abbrev pub is_gcm_key_wrap : KeyManagementMode → Bool
is_gcm_key_wrap GcmKeyWrap = true
is_gcm_key_wrap mode = false

abbrev pub gcm_management_algs : List KeyAlg
gcm_management_algs = filter (λ alg. is_gcm_key_wrap (mode_of alg)) management_algs

-- ---- what more algorithms leave as it is (docs/SPECIFICATION.md "Objects" 3)

-- the same limits, with these algorithms
abbrev pub knowing : Limits → List KeyAlg → Limits
knowing limits algs = record limits { management = algs }

-- a name of an algorithm among those that were known, or of none of the further ones
abbrev pub needs_no_more : List KeyAlg → List KeyAlg → List ℕ → Bool
needs_no_more known further name = is_some (management_alg_among known name) || not (is_some (management_alg_among further name))

-- the objects that name such algorithms alone
abbrev pub NeedsNoMore : List KeyAlg → List KeyAlg → EncryptedObject → Type 0
NeedsNoMore known further o = list_all (λ r. needs_no_more known further r.alg) o.recipients ≡ true

abbrev pub NeedsNoMoreSigned : List KeyAlg → List KeyAlg → SignedObject → Type 0
NeedsNoMoreSigned known further o = list_all (λ s. needs_no_more known further s.alg) o.signatures ≡ true

-- They are read of the same texts, and the encrypted ones are decrypted by the same keys to the same plaintexts, or with the same refusals,
-- whether the further algorithms are known or not.
pub record OpensAlike (limits : Limits) (known further : List KeyAlg) : Type 0 where
  pub read : (detached : Option (List ℕ)) (text : List ℕ) (o : EncryptedObject) → NeedsNoMore known further o
      → (jwe_of (knowing limits (known ++ further)) detached text ≡ Ok o) ↔ (jwe_of (knowing limits known) detached text ≡ Ok o)
  pub opens : (keys : List OctetKey) (o : EncryptedObject) → NeedsNoMore known further o
      → decrypted (knowing limits (known ++ further)) keys o ≡ decrypted (knowing limits known) keys o
  pub signed : (detached : Option (List ℕ)) (text : List ℕ) (o : SignedObject) → NeedsNoMoreSigned known further o
      → (jws_of (knowing limits (known ++ further)) detached text ≡ Ok o) ↔ (jws_of (knowing limits known) detached text ≡ Ok o)
