use Rattle.keys.specs.Limits.{limits}
use Rattle.jose.proofs.Headline.{alike, encrypted_is_decrypted}
use Rattle.jose.proofs.Invoked.{answer_is_decrypted}
use Rattle.jose.proofs.laws.what_is_encrypted_is_decrypted.Goals as goal

pub returns-clause-texts : goal.returns-clause-texts
returns-clause-texts c = encrypted_is_decrypted c.keys_have_octets.ensures limits limits c.what_is_encrypted_decrypts.ensures.here (alike limits)

pub returns-clause-answers : goal.returns-clause-answers
returns-clause-answers c = answer_is_decrypted (returns-clause-texts c)
