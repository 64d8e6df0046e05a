-- Texts that may end in one line end.
use Rattle.std.specs.Prelude.{ℕ, ◌-◌, ◌==◌, List, length, take, slice_index, if◌then◌else◌}
use Rattle.std.specs.Str.{byte}

-- a text without the LF or the CR LF that may end it (docs/SPECIFICATION.md "Octets and texts" and "Objects")
unfoldable pub without_line_end : List ℕ → List ℕ
without_line_end text =
    if slice_index text (length text - 1) == byte "\n"
    then (if slice_index text (length text - 2) == byte "\r" then take (length text - 2) text else take (length text - 1) text)
    else text
