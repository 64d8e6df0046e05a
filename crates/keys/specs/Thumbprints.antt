-- Thumbprints of keys (RFC 7638).
use Rattle.std.specs.Prelude.{ℕ, false, List, [], ◌∷◌, ◌++◌, codes, Result, Ok}
use Rattle.std.specs.List.{join_by}
use Rattle.std.specs.Str.{byte}
use Rattle.octets.specs.declared.refusal.Refusal.{Refusal}
use Rattle.octets.specs.Outcomes.{◌>>=◌}
use Rattle.octets.specs.Base64url.{base64url}
use Rattle.prf.specs.declared.digests.HashAlg.{HashAlg}
use Rattle.prf.specs.Digests.{digest_of}
use Rattle.keys.specs.Keys.{OctetKey}
use Rattle.keys.specs.KeySets.{key_set}
use Rattle.keys.specs.Limits.{limits}

-- the JSON text of the required members of an octet key, in byte order (sections 3.2 and 3.3)
unfoldable pub required_members : OctetKey → List ℕ
required_members key = codes "{\"k\":\"" ++ base64url key.octets ++ codes "\",\"kty\":\"oct\"}"

-- the base64url text of their hash (section 3)
unfoldable pub thumbprint_of : OctetKey → HashAlg → List ℕ
thumbprint_of key hash = base64url (digest_of hash (required_members key))

-- the thumbprints of the keys, one a line, without a line feed after the last (docs/SPECIFICATION.md "Keys" 7)
unfoldable pub thumbprint_lines : HashAlg → List OctetKey → List ℕ
thumbprint_lines hash keys = join_by (λ key. thumbprint_of key hash) (byte "\n" ∷ []) keys

-- the thumbprints of the good keys of a text, in order and without any bad key of a set (docs/SPECIFICATION.md "Keys" 3 and 7)
unfoldable pub thp_answer : HashAlg → List ℕ → Result (List ℕ) Refusal
thp_answer hash text = do
  keys ← key_set limits text false
  Ok (thumbprint_lines hash keys)
