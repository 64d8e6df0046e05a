use Rattle.aes.proofs.Remainders.{remainder_is, one_remainder}
use Rattle.aes.proofs.laws.remainder_is_unique.Goals as goal

pub returns : goal.returns
returns c = record {
  remainder = λ d m k p degree. remainder_is d m degree k p;
  unique = λ d m p r s degree. one_remainder d m degree p r s;
}
