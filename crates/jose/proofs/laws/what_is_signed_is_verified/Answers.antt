use Rattle.jose.proofs.Headline.{signed_is_verified}
use Rattle.jose.proofs.Invoked.{answer_is_verified}
use Rattle.jose.proofs.laws.what_is_signed_is_verified.Goals as goal

pub returns-clause-texts : goal.returns-clause-texts
returns-clause-texts c = signed_is_verified c.what_is_signed_verifies.ensures

pub returns-clause-answers : goal.returns-clause-answers
returns-clause-answers c = answer_is_verified (returns-clause-texts c)
