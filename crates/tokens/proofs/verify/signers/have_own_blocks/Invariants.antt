use Rattle.std.proofs.Common.{◌≡◌, map, take}
use Rattle.keys.specs.Code.Views.{key_view}
use Rattle.tokens.specs.Signers.{key_blocks}
use Rattle.tokens.proofs.verify.signers.have_own_blocks.Given as goal

-- the blocks of the keys so far
abbrev pub invariant-loop-key : goal.invariant-loop-key
invariant-loop-key g l = l.blocks.items ≡ key_blocks g.H.Hash.function (map key_view (take l.key-index l.keys))
