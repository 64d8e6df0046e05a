use Rattle.std.proofs.Common.{◌≡◌, ◌+◌, ◌*◌, ◌^◌, ◌≤◌, map, drop}
use Rattle.objects.specs.Code.Views.{recipient_view}
use Rattle.tools.specs.LookedObjects.{all_iterations}
use Rattle.tools.proofs.iterations.iterations.Given as goal

abbrev pub invariant-loop-recipient : goal.invariant-loop-recipient
invariant-loop-recipient l = (l.total + all_iterations (map recipient_view (drop l.recipient-index l.recipients)) ≡ all_iterations (map recipient_view l.recipients))
    × (l.total ≤ l.recipient-index * 2 ^ 64)
