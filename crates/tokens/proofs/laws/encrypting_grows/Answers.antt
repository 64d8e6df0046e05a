use Rattle.tokens.proofs.Encrypting.Growth.{encrypting_grows}
use Rattle.tokens.proofs.laws.encrypting_grows.Goals as goal

pub returns : goal.returns
returns c = encrypting_grows (record { opened = c.what_is_opened_is_octets.ensures; delivering = c.what_delivers_is_octets.ensures })
