use Rattle.ciphers.proofs.salted_key.SaltedKey.derive_by_sha512.Goals as goal

pub returns-clause-key : goal.returns-clause-key
returns-clause-key c = rw (← c.self.view_is) (c.derive_key.ensures.key _ _ c.keep_first-first.ensures.first)
