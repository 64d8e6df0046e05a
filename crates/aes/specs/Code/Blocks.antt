-- Lists of whole blocks.
use Rattle.std.specs.Prelude.{◌≡◌, ℕ, ◌+◌, ◌*◌, ◌≤◌, List, length, take, drop}

-- block i, from 0, of sixteen octets (FIPS 197 section 3.4)
abbrev pub block : List ℕ → ℕ → List ℕ
block p i = take 16 (drop (16 * i) p)

-- each whole block of q is e of that of p
abbrev pub IsBlockwise : (List ℕ → List ℕ) → List ℕ → List ℕ → Type 0
IsBlockwise e p q = (i : ℕ) → 16 * i + 16 ≤ length p → block q i ≡ e (block p i)
