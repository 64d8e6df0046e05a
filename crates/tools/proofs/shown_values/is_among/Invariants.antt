use Rattle.std.proofs.Common.{◌≡◌, map, drop}
use Rattle.keys.specs.Texts.{is_among}
use Rattle.tools.proofs.shown_values.is_among.Given as goal

abbrev pub invariant-loop-name : goal.invariant-loop-name
invariant-loop-name l = is_among (map (λ n. n.now) (drop l.name-index l.names)) l.text ≡ is_among (map (λ n. n.now) l.names) l.text
