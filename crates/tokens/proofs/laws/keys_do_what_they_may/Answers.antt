use Rattle.tokens.proofs.Uses.{verifiers_may_verify, decrypters_may_decrypt}
use Rattle.tokens.proofs.laws.keys_do_what_they_may.Goals as goal

pub returns-clause-verify : goal.returns-clause-verify
returns-clause-verify c = verifiers_may_verify

pub returns-clause-decrypt : goal.returns-clause-decrypt
returns-clause-decrypt c = decrypters_may_decrypt
