-- What contracts see of key management. It is apart from the other views, because it is in invariants of their types.
use Rattle.std.specs.Prelude.{ℕ, ◌&&◌, Bool, true, false, nat_le, List, length, Option, Some, None}
use Rattle.ciphers.specs.declared.key_alg.KeyAlg.{KeyAlg}
use Rattle.ciphers.specs.declared.key_alg.KeyManagementMode.{KeyManagementMode}
use Rattle.ciphers.specs.declared.key_alg.KeyManagementMode.TheVariants as mode
use Rattle.ciphers.specs.Algorithms.{mode_of}
use Rattle.objects.specs.KeyManagement as management
use Rattle.objects.specs.declared.key_management.KeyManagement.{KeyManagement}
use Rattle.objects.specs.declared.key_management.KeyManagement.TheVariants.{Unknown, Direct, KeyWrap, Password, GcmKeyWrap}

abbrev pub management_view : KeyManagement → management.KeyManagement
management_view Unknown = management.Unknown
management_view Direct = management.Direct
management_view KeyWrap = management.KeyWrap
management_view (Password p2s p2c) = management.Password p2s p2c
management_view (GcmKeyWrap iv tag) = management.GcmKeyWrap iv tag

-- the salt input and the count are as RFC 7518 section 4.8.1 requires
abbrev pub are_password_parameters : List ℕ → ℕ → Bool
are_password_parameters p2s p2c = nat_le 8 (length p2s) && nat_le 1 p2c

-- it is of an algorithm of this mode
abbrev pub is_management_in : KeyManagementMode → management.KeyManagement → Bool
is_management_in mode.Direct management.Direct = true
is_management_in mode.KeyWrap management.KeyWrap = true
is_management_in mode.Password (management.Password p2s p2c) = are_password_parameters p2s p2c
is_management_in mode.GcmKeyWrap (management.GcmKeyWrap iv tag) = true
is_management_in m other = false

-- it is of the algorithm
abbrev pub is_management_of : Option KeyAlg → management.KeyManagement → Bool
is_management_of (Some alg) it = is_management_in (mode_of alg) it
is_management_of None management.Unknown = true
is_management_of None other = false
