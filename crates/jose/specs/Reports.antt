-- The last line of the program, and its status.
use Rattle.std.specs.Prelude.{ℕ, List, [], ◌∷◌, ◌++◌, codes, Result, Ok, Err}
use Rattle.std.specs.Str.{byte}
use Rattle.octets.specs.declared.refusal.Refusal.{Refusal}
use Rattle.octets.specs.Refusals.{refusal_text}

abbrev pub status_of : Result (Unit {0}) Refusal → ℕ
status_of (Ok done) = 0
status_of (Err refusal) = 1

-- the program's name, the refusal's number and name, and a line feed
abbrev pub report_line : Refusal → List ℕ
report_line refusal = codes "jose: " ++ refusal_text refusal ++ byte "\n" ∷ []
