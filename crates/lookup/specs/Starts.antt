-- The bounds of a list of line starts. Assumes nothing.
use Rattle.std.specs.Prelude.{ℕ, ◌/◌, ◌≤◌, List, length}
use Rattle.sheet.specs.Limits.{sheet_limit, shortest_line}

-- a list has room for the starts of a sheet's lines, as far as the sheet is no longer than an accepted one
unfoldable pub Room : List ℕ → List ℕ → Type 0
Room s out = length s ≤ sheet_limit → length s / shortest_line ≤ length out
