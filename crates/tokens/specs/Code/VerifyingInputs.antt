-- What signing inputs start with, before the payload is read: one for each candidate pair of a key and a signature (RFC 7515 section 5.2),
-- by the keys in order, and for each key by the signatures in order.
use Rattle.std.specs.Prelude.{List, [], ◌∷◌, ◌++◌, Option, Some, None}
use Rattle.keys.specs.declared.algorithm.SignatureAlg.{SignatureAlg}
use Rattle.keys.specs.Keys.{OctetKey}
use Rattle.objects.specs.Jws.{Signature}
use Rattle.tokens.specs.Code.SigningInputs.{InputStart}
use Rattle.tokens.specs.Verifying.{candidate_alg}

-- the start for a pair, if it is a candidate
abbrev pub starts_by : Option SignatureAlg → Signature → OctetKey → List InputStart
starts_by None s key = []
starts_by (Some alg) s key = record { alg = alg; key = key.octets; protected = s.protected } ∷ []

abbrev pub starts_for_pair : Signature → OctetKey → List InputStart
starts_for_pair s key = starts_by (candidate_alg s key) s key

-- the starts for a key
abbrev pub starts_for_key : List Signature → OctetKey → List InputStart
starts_for_key [] key = []
starts_for_key (s ∷ signatures) key = starts_for_pair s key ++ starts_for_key signatures key

-- the starts for all keys
abbrev pub starts_for_keys : List Signature → List OctetKey → List InputStart
starts_for_keys signatures [] = []
starts_for_keys signatures (key ∷ keys) = starts_for_key signatures key ++ starts_for_keys signatures keys
