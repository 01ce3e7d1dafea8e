-- The number of Visits as the code counts it, which visits a piece once and counts it as often as the source enters it. proofs/Weighed
-- shows that it is the same. Assumes nothing.
use Rattle.std.specs.Prelude.{ℕ, zero, suc, ◌+◌, ◌*◌, List, [], get_or, ltb}
use Rattle.runs.specs.Runs.{pick}
use Rattle.tables.specs.Tables.{affixes}
use Rattle.strips.specs.Suffix.{remainders}
use Rattle.sheet.specs.Replies.{Ask}
use Rattle.progressive.specs.Progressive.{is_progressive}
use Rattle.paths.specs.Chains.{rows_after}
use Rattle.paths.specs.Visits.{total, entry}

-- how often a strip of this row leads to what it leaves, where plural markers are stripped so many times: a particle's once, a case
-- marker's once from its own group on and once from the next, a plural marker's as often as it is stripped
abbrev pub times_after : ℕ → ℕ → ℕ
times_after times row = pick (ltb row 2) times (pick (ltb row 18) 2 1)

-- how often a piece is entered that strips led to so many times, and of which these rows may be stripped next: once more for each group
-- that is left, and behind a case marker both times for the plural markers and for the end
abbrev pub entries_at : ℕ → ℕ → ℕ
entries_at rows times = pick (ltb 18 rows) (2 * times + 2) (pick (ltb 0 rows) (2 * times + 1) times)

-- n rows from `row` on, together
unfoldable pub total_rows : (ℕ → ℕ) → ℕ → ℕ → ℕ
total_rows f row zero = 0
total_rows f row (suc n) = f row + total_rows f (suc row) n

-- what one row adds: each remainder, where `deeper` counts it
unfoldable pub row_weighed : (ℕ → ℕ → List ℕ → ℕ) → ℕ → List ℕ → ℕ → ℕ
row_weighed deeper times piece row = total (deeper (rows_after row) (times_after times row)) (remainders piece (get_or affixes row []))

-- a piece that strips led to so many times, of which `rows` may come next and `depth` more suffixes may be stripped
unfoldable pub weighed : ℕ → Ask → ℕ → ℕ → List ℕ → ℕ
weighed zero ask rows times piece = times * entry ask piece
weighed (suc depth) ask rows times piece =
    pick (is_progressive ask piece) (times * entry ask piece)
    (entries_at rows times * entry ask piece + total_rows (row_weighed (weighed depth ask) times piece) 0 rows)
