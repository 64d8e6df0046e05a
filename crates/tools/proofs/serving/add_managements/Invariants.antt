use Rattle.std.proofs.Common.{◌≡◌, ◌++◌, drop}
use Rattle.keys.specs.Code.Views.{key_view}
use Rattle.tools.specs.LookedKeys.{management_words}
use Rattle.tools.proofs.serving.add_managements.Given as goal

abbrev pub invariant-loop-alg : goal.invariant-loop-alg
invariant-loop-alg l = l.line.items ++ management_words (key_view l.key) (drop l.alg-index l.algs) ≡ l.initial.line.items ++ management_words (key_view l.key) l.algs
