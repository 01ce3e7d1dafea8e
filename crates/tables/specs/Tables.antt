-- The tables and texts that are made of those of Rows.antt. The contracts of every crate that reads a table cite these. Assumes
-- nothing.
use Rattle.std.specs.Prelude.{ℕ, Bool, ◌||◌, List, [], ◌∷◌, ◌++◌}
use Rattle.runs.specs.Runs.{same_text}
use Rattle.tables.specs.Rows.{plural_markers, case_markers, particles}

-- the 25 texts of the suffix chains in the order of paths (document 01, "Rank"): the later group first, then table place. Plural
-- markers are rows 0 and 1, case markers rows 2 to 17, particles rows 18 to 24
unfoldable pub affixes : List (List ℕ)
affixes = plural_markers ++ case_markers ++ particles

-- ई and ी, the two suffixes of one character
abbrev pub letter_ii : List ℕ
letter_ii = 0xE0 ∷ 0xA4 ∷ 0x88 ∷ []

abbrev pub sign_ii : List ℕ
sign_ii = 0xE0 ∷ 0xA5 ∷ 0x80 ∷ []

unfoldable pub is_ii : List ℕ → Bool
is_ii t = same_text t letter_ii || same_text t sign_ii
