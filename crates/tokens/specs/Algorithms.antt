-- The algorithms of an encrypted object, and the parameters of key management, as the ciphers have them.
use Rattle.std.specs.Prelude.{[]}
use Rattle.ciphers.specs.Delivery.{Parameters}
use Rattle.ciphers.specs.declared.content_alg.ContentAlg.{ContentAlg}
use Rattle.ciphers.specs.declared.key_alg.KeyAlg.{KeyAlg}
use Rattle.objects.specs.KeyManagement.{KeyManagement, Unknown, Direct, KeyWrap, Password, GcmKeyWrap}

-- where an algorithm reads no parameters (RFC 7518 sections 4.4 and 4.5)
abbrev pub no_parameters : Parameters
no_parameters = record { iv = []; tag = []; p2s = []; p2c = 0 }

-- what a recipient's header gives of key management (RFC 7518 section 4)
abbrev pub parameters_by : KeyManagement → Parameters
parameters_by Unknown = no_parameters
parameters_by Direct = no_parameters
parameters_by KeyWrap = no_parameters
parameters_by (Password p2s p2c) = record { iv = []; tag = []; p2s = p2s; p2c = p2c }
parameters_by (GcmKeyWrap iv tag) = record { iv = iv; tag = tag; p2s = []; p2c = 0 }

-- both algorithms of an encrypted object (RFC 7516 sections 4.1.1 and 4.1.2)
pub record Algorithms : Type 0 where
  pub management : KeyAlg
  pub encryption : ContentAlg
