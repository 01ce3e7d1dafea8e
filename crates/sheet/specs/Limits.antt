-- The limits of a sheet (document 01, "The sheet"), each said here and nowhere else. Assumes nothing.
use Rattle.std.specs.Prelude.{ℕ, ◌/◌}

-- the most bytes of a sheet
abbrev pub sheet_limit : ℕ
sheet_limit = 65536

-- the most bytes of a name
abbrev pub name_limit : ℕ
name_limit = 210

-- the fewest bytes of a line, with its 0A: a name and a value of one byte each
abbrev pub shortest_line : ℕ
shortest_line = 10

-- the most lines of an accepted sheet
abbrev pub line_limit : ℕ
line_limit = sheet_limit / shortest_line

-- the most bytes of a sheet whose starts are stored in a short list
abbrev pub small_limit : ℕ
small_limit = 4096

-- the rounds of a search by halves that are enough for every accepted sheet
abbrev pub enough_rounds : ℕ
enough_rounds = 13
