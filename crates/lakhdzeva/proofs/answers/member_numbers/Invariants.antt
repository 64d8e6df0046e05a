use Rattle.std.proofs.Common.{◌≡◌, take, map, option_map}
use Rattle.keys.specs.Code.Views.{key_view}
use Rattle.lakhdzeva.specs.Answers.{member_number}
use Rattle.lakhdzeva.proofs.answers.member_numbers.Given as goal

abbrev pub invariant-loop-member : goal.invariant-loop-member
invariant-loop-member l = l.numbers.items ≡ map member_number (map (option_map key_view) (take l.member-index l.members))
