-- What the code says of a key.
use Rattle.tokens.specs.declared.judging.KeyUses.{KeyUses as CodeUses}
use Rattle.tokens.specs.Judging.{KeyUses}

abbrev pub uses_view : CodeUses → KeyUses
uses_view uses = record { sign = uses.sign; verify = uses.verify; encrypt = uses.encrypt; decrypt = uses.decrypt }
