-- Signed objects whose payload is detached (RFC 7515 appendix F).
use Rattle.std.specs.Prelude.{◌≡◌, ℕ, List, [], Some, Ok}
use Rattle.octets.specs.Octets.{IsOctets}
use Rattle.octets.specs.Outcomes.{◌>>=◌}
use Rattle.keys.specs.Limits.{Limits}
use Rattle.objects.specs.Jws.{SignedObject, jws_of}

-- the object with this payload (RFC 7515 appendix F)
abbrev pub with_payload : List ℕ → SignedObject → SignedObject
with_payload payload o = record { payload = payload; signatures = o.signatures }

-- A text is read with a detached payload as it is with an empty one, except for the payload of the object. See RFC 7515 appendix F.
abbrev pub PayloadIsHandedIn : Type 0
PayloadIsHandedIn = (limits : Limits) (payload text : List ℕ) → IsOctets payload
    → jws_of limits (Some payload) text ≡ (jws_of limits (Some []) text >>= λ o. Ok (with_payload payload o))
