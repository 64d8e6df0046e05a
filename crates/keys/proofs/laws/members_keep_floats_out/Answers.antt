use Rattle.keys.proofs.Floats.{no_float_in_member, no_float_members_of, no_float_put_in}
use Rattle.keys.proofs.WholeNumbers.{no_float_in_members}
use Rattle.keys.proofs.laws.members_keep_floats_out.Goals as goal

pub returns : goal.returns
returns c = record { whole = no_float_in_members; found = no_float_in_member; members_of = no_float_members_of; put_in = no_float_put_in }
