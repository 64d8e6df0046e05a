-- Signatures (RFC 7515 section 5.1, RFC 7518 section 3.2).
use Rattle.std.specs.Prelude.{ℕ, List, ◌∷◌, ◌++◌}
use Rattle.std.specs.Str.{byte}
use Rattle.octets.specs.Base64url.{base64url}
use Rattle.prf.specs.Hmac.{hmac}
use Rattle.keys.specs.declared.algorithm.SignatureAlg.{SignatureAlg}
use Rattle.keys.specs.Algorithms.{signature_hash}

-- the text of the protected header, a dot, and the base64url text of the payload (RFC 7515 section 5.1, step 5)
abbrev pub signing_input : List ℕ → List ℕ → List ℕ
signing_input protected payload = protected ++ (byte "." ∷ base64url payload)

-- the whole HMAC of the signing input (RFC 7515 section 5.1, step 5, and RFC 7518 section 3.2)
unfoldable pub signature_of : SignatureAlg → List ℕ → List ℕ → List ℕ → List ℕ
signature_of alg key protected payload = hmac (signature_hash alg) key (signing_input protected payload)
