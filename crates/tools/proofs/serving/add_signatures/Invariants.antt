use Rattle.std.proofs.Common.{◌≡◌, ◌++◌, drop}
use Rattle.keys.specs.Code.Views.{key_view}
use Rattle.tools.specs.LookedKeys.{signature_words}
use Rattle.tools.proofs.serving.add_signatures.Given as goal

abbrev pub invariant-loop-alg : goal.invariant-loop-alg
invariant-loop-alg l = l.line.items ++ signature_words (key_view l.key) (drop l.alg-index l.algs) ≡ l.initial.line.items ++ signature_words (key_view l.key) l.algs
