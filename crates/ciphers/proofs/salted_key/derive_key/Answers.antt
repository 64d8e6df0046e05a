use Rattle.std.proofs.Common.{rules}
use Rattle.ciphers.specs.Delivery.{derived_key}
use Rattle.ciphers.proofs.salted_key.derive_key.Goals as goal

pub returns-clause-key : goal.returns-clause-key
unfolding derived_key
returns-clause-key g c name p2s first = let key = c.pbkdf2_after-calls.ensures.key _ first in search rules
