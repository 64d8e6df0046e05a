use Rattle.tools.proofs.LookLaws.{damaged_texts_are_hidden, secrets_are_hidden, texts_hide_secrets}
use Rattle.tools.proofs.laws.secrets_are_hidden.Goals as goal

pub returns-clause-values : goal.returns-clause-values
returns-clause-values c = secrets_are_hidden

pub returns-clause-texts : goal.returns-clause-texts
returns-clause-texts c = texts_hide_secrets

pub returns-clause-damaged : goal.returns-clause-damaged
returns-clause-damaged c = damaged_texts_are_hidden
