-- A content that is pumped through a transform: what is written of it after another text, and what is refused.
use Rattle.std.specs.Prelude.{◌≤◌, ℕ, ◌+◌, ◌-◌, List, length, take}

-- the most octets read that may be missing from what is written after the content failed ("Commands", what is left after a refusal)
abbrev pub most_behind : ℕ
most_behind = 4160

-- The written text is at least as long as that fixed by the octets read except the last `most_behind`. See
-- docs/SPECIFICATION.md "Commands".
abbrev pub KeepsUp : (List ℕ → List ℕ) → List ℕ → List ℕ → List ℕ → Type 0
KeepsUp fixed read old new = length old + length (fixed (take (length read - most_behind) read)) ≤ length new
