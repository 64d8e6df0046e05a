-- Signed objects that are made without reading them again.
use Rattle.std.specs.Prelude.{◌≡◌, ℕ, List, Ok}
use Rattle.keys.specs.Limits.{Limits}
use Rattle.objects.specs.Jws.{Signature, SignedObject, parts_of, built}

-- the object is the one that is built of its own members
abbrev pub IsBuilt : Limits → SignedObject → Type 0
IsBuilt limits o = built limits (parts_of o) ≡ Ok o

abbrev pub made_object : List ℕ → List Signature → SignedObject
made_object payload signatures = record { payload = payload; signatures = signatures }
