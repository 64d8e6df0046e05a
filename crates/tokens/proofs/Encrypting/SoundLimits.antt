-- Under the limits of this profile, everything that is written may be read.
use Rattle.std.proofs.Common.{lit≤, refl}
use Rattle.keys.specs.Limits.{limits}
use Rattle.tokens.specs.Encrypting.{AreSound}

pub these_are_sound : AreSound limits
these_are_sound = record { depth = lit≤ tt; some = lit≤ tt; whole = lit≤ tt; read = lit≤ tt; algorithms = refl }
