use Rattle.std.proofs.Common.{refl}
use Rattle.keys.specs.Limits.{limits}
use Rattle.tokens.specs.MoreAlgorithms.{earlier_limits, earlier_management_algs, gcm_management_algs}
use Rattle.tokens.proofs.MoreAlgorithms.{opens_alike}
use Rattle.tokens.proofs.laws.more_algorithms_open_alike.Goals as goal

pub returns-clause-all : goal.returns-clause-all
returns-clause-all c = opens_alike

pub returns-clause-gcm : goal.returns-clause-gcm
returns-clause-gcm c = (opens_alike limits earlier_management_algs gcm_management_algs, refl)

pub returns-clause-earlier : goal.returns-clause-earlier
returns-clause-earlier c = (opens_alike earlier_limits earlier_management_algs gcm_management_algs, refl)
