use Rattle.std.proofs.Common.{◌*◌, ◌≤◌}
use Rattle.std.specs.List.{position_or_len}
use Rattle.objects.specs.Texts.{is_dot}
use Rattle.objects.proofs.compact.dots.without_dots.Given as goal

abbrev pub invariant-loop-i : goal.invariant-loop-i
invariant-loop-i l = 32 * l.i ≤ position_or_len is_dot l.text
