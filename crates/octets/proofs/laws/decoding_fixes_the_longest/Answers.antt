use Rattle.octets.proofs.Growing.{fixes_longest}
use Rattle.octets.proofs.laws.decoding_fixes_the_longest.Goals as goal

pub returns : goal.returns
returns c = fixes_longest
