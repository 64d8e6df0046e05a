use Rattle.std.proofs.Common.{◌≡◌, [], map, take}
use Rattle.keys.specs.Code.Views.{key_view}
use Rattle.tokens.specs.Code.Trying.{salted_by}
use Rattle.tokens.proofs.decrypt.salted.SaltedKeys.new.Given as goal

-- the keys so far are salted
abbrev pub invariant-loop-key : goal.invariant-loop-key
invariant-loop-key l = l.salted.items ≡ map (salted_by []) (map key_view (take l.key-index l.keys))
