-- Counting signers until it is known whether they are enough.
use Rattle.std.specs.Prelude.{ℕ, ◌==◌, nat_lt, Bool, true, false, if◌then◌else◌, Option, Some, None}

-- Whether there are enough signers, if that is known: no more are wanted, or more than there are keys left to ask.
abbrev pub decided : ℕ → ℕ → Option Bool
decided wanted left = if wanted == 0 then Some true else (if nat_lt left wanted then Some false else None)
