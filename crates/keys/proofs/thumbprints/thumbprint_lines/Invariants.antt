use Rattle.std.proofs.Common.{◌≡◌, take, map, string_bytes}
use Rattle.keys.specs.Code.Views.{key_view}
use Rattle.keys.specs.Thumbprints.{thumbprint_of}
use Rattle.keys.proofs.thumbprints.thumbprint_lines.Given as goal

-- the thumbprints of the keys so far
abbrev pub invariant-loop-key : goal.invariant-loop-key
invariant-loop-key l = map string_bytes l.lines.items ≡ map (λ key. thumbprint_of (key_view key) l.hash) (take l.key-index l.keys)
