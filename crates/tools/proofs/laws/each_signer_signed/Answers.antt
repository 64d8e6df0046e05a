use Rattle.tools.proofs.Headline.{alike_keys_are_refused, each_key_verifies, fewer_are_enough, key_twice_is_refused, other_number_is_refused, so_many_keys_verify}
use Rattle.tools.proofs.laws.each_signer_signed.Goals as goal

pub returns-clause-each : goal.returns-clause-each
returns-clause-each c = each_key_verifies c.signers_are_counted.ensures.least

pub returns-clause-least : goal.returns-clause-least
returns-clause-least c = so_many_keys_verify c.signers_are_counted.ensures.least

pub returns-clause-fewer : goal.returns-clause-fewer
returns-clause-fewer c = fewer_are_enough c.signers_are_counted.ensures.fewer

pub returns-clause-number : goal.returns-clause-number
returns-clause-number c = other_number_is_refused

pub returns-clause-alike : goal.returns-clause-alike
returns-clause-alike c = alike_keys_are_refused

pub returns-clause-twice : goal.returns-clause-twice
returns-clause-twice c = key_twice_is_refused
