use Rattle.std.proofs.Common.{◌≡◌, ℕ, ◌*◌, ◌<◌, slice_index}
use Rattle.aes.specs.KeyExpansion.{key_expansion}
use Rattle.aes.proofs.key_expansion.key_expansion.Given as goal

abbrev pub invariant-loop-i : goal.invariant-loop-i
invariant-loop-i l = (p : ℕ) → p < 4 * l.i → slice_index l.round_keys p ≡ slice_index (key_expansion l.nk l.key) p
