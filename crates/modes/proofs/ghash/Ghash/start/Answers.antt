use Rattle.std.proofs.Common.{refl, ◌∙◌}
use Rattle.aes.specs.Polynomial.{polynomial_sum}
use Rattle.modes.specs.Ghash.{ghash_number, numbers}
use Rattle.modes.proofs.ghash.Ghash.start.Goals as goal

pub returns : goal.returns
unfolding ghash_number numbers polynomial_sum
returns c = record { key = c.new.ensures ∙ c.from_be_bytes.ensures; sum = refl; waiting = c.new-2.ensures }
