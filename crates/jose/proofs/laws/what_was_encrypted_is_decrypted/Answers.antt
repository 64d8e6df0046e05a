use Rattle.std.proofs.Common.{lit≤, refl}
use Rattle.keys.specs.Limits.{limits}
use Rattle.tokens.specs.MoreAlgorithms.{earlier_limits}
use Rattle.tokens.specs.Encrypting.{AreSound}
use Rattle.jose.proofs.Headline.{encrypted_is_decrypted}
use Rattle.jose.proofs.WiderLimits.{these_are_wider, reads_alike}
use Rattle.jose.proofs.laws.what_was_encrypted_is_decrypted.Goals as goal

-- Under the earlier limits, everything that is written may be read.
earlier_are_sound : AreSound earlier_limits
earlier_are_sound = record { depth = lit≤ tt; some = lit≤ tt; whole = lit≤ tt; read = lit≤ tt; algorithms = refl }

pub returns-clause-all : goal.returns-clause-all
returns-clause-all c narrower wider sound are =
    encrypted_is_decrypted c.keys_have_octets.ensures narrower wider (c.what_is_encrypted_decrypts.ensures.all narrower sound) (reads_alike narrower wider are)

pub returns-clause-here : goal.returns-clause-here
returns-clause-here c = returns-clause-all c earlier_limits limits earlier_are_sound these_are_wider
