-- Encrypted objects that are made without reading them again.
use Rattle.std.specs.Prelude.{◌≡◌, ◌&&◌, Bool, Ok}
use Rattle.ciphers.specs.Algorithms.{management_alg_of}
use Rattle.keys.specs.Json.{member_numbers_are_whole}
use Rattle.keys.specs.Limits.{Limits}
use Rattle.objects.specs.Jwe.{Recipient, EncryptedObject, parts_of, built}
use Rattle.objects.specs.Code.KeyManagementView.{is_management_of}

-- the object is the one that is built of its own members
abbrev pub IsBuilt : Limits → EncryptedObject → Type 0
IsBuilt limits o = built limits (parts_of o) ≡ Ok o

-- The recipient may be one that was read: the numbers of its header are whole, and its parameters are those of its algorithm.
abbrev pub is_as_read : Recipient → Bool
is_as_read r = member_numbers_are_whole r.header && is_management_of (management_alg_of r.alg) r.management
