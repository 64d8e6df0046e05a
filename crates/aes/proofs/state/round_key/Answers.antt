use Rattle.aes.proofs.Vectors.{key_is}
use Rattle.aes.proofs.state.round_key.Goals as goal

pub returns : goal.returns
returns c = key_is c.args.round_keys.now c.args.round c.requires
