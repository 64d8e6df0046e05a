use Rattle.keys.specs.Limits.{limits}
use Rattle.tokens.specs.MoreAlgorithms.{earlier_limits}
use Rattle.jose.proofs.WiderLimits.{these_are_wider, encrypts_as_before}
use Rattle.jose.proofs.laws.wider_limits_keep_what_is_encrypted.Goals as goal

pub returns-clause-all : goal.returns-clause-all
returns-clause-all c narrower wider are = encrypts_as_before narrower wider are

pub returns-clause-here : goal.returns-clause-here
returns-clause-here c = encrypts_as_before earlier_limits limits these_are_wider
