use Rattle.std.proofs.Common.{map}
use Rattle.keys.specs.Code.Views.{key_view}
use Rattle.tokens.proofs.Decrypting.Salted.{salted_again}
use Rattle.tokens.proofs.decrypt.salted.SaltedKeys.salt.Goals as goal

pub returns-clause-salted : goal.returns-clause-salted
returns-clause-salted c are =
    salted_again c.args.p2s.now c.args.self.now.p2s.now (map key_view c.args.self.now.keys.now) c.args.self.now.salted.items c.salt_each.new.keys.items are
    c.salt_each.ensures
