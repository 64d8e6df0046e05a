use Rattle.tokens.proofs.Encrypting.Texts.{encrypting_makes_texts}
use Rattle.tokens.proofs.laws.encrypting_makes_texts.Goals as goal

pub returns : goal.returns
returns c = encrypting_makes_texts (record { opened = c.what_is_opened_is_octets.ensures; delivering = c.what_delivers_is_octets.ensures })
