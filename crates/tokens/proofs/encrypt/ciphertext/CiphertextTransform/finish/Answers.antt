use Rattle.tokens.proofs.Encrypting.Sealing.{octets_end}
use Rattle.tokens.proofs.encrypt.ciphertext.CiphertextTransform.finish.Goals as goal

pub returns-clause-text : goal.returns-clause-text
returns-clause-text g c s p fed octets = octets_end s p _ fed.short (c.end-len.ensures.ciphertext s p fed.holds)
