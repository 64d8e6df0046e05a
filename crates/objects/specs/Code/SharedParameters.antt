-- Parameters of a header that are read once for all recipients.
use Rattle.std.specs.Prelude.{◌≡◌, codes, not, Some, IfSome, Ok}
use Rattle.serde_json.specs.Data.{Members, no_members}
use Rattle.objects.specs.Headers.{overlap, all_members, string_parameter, salt_parameter, octets_parameter}
use Rattle.objects.specs.declared.jwe.shared_header.SharedHeader.{SharedHeader}
use Rattle.objects.specs.declared.header.shared.SharedParameters.{SharedParameters}

-- each parameter that is there is what the header says of it
pub record AreReadIn (header : Members) (p : SharedParameters) : Type 0 where
  pub alg : IfSome p.alg (λ text. string_parameter (codes "alg") header ≡ Ok (Some text))
  pub enc : IfSome p.enc (λ text. string_parameter (codes "enc") header ≡ Ok (Some text))
  pub p2s : IfSome p.p2s (λ octets. salt_parameter (codes "p2s") header ≡ Ok (Some octets))
  pub iv : IfSome p.iv (λ octets. octets_parameter (codes "iv") header ≡ Ok (Some octets))
  pub tag : IfSome p.tag (λ octets. octets_parameter (codes "tag") header ≡ Ok (Some octets))

-- what is known of the two headers that all recipients share
pub record IsReadFrom (protected unprotected : Members) (s : SharedHeader) : Type 0 where
  pub judged : s.are_disjoint ≡ not (overlap protected unprotected)
  pub read : AreReadIn (all_members protected unprotected no_members) s.parameters
