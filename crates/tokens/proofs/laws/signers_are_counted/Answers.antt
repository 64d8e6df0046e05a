use Rattle.tokens.proofs.Verifying.Least.{fewer_are_accepted, least_have_signed, least_is_all, least_is_each_signer}
use Rattle.tokens.proofs.laws.signers_are_counted.Goals as goal

pub returns-clause-all : goal.returns-clause-all
returns-clause-all c = least_is_all

pub returns-clause-each : goal.returns-clause-each
returns-clause-each c = least_is_each_signer

pub returns-clause-least : goal.returns-clause-least
returns-clause-least c = least_have_signed

pub returns-clause-fewer : goal.returns-clause-fewer
returns-clause-fewer c = fewer_are_accepted
