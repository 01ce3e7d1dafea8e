-- What a walk has collected, as the rows that it keeps. Assumes nothing.
use Rattle.std.specs.Prelude.{Option, None, Some}
use Rattle.arrayvec.specs.ArrayVec.{ArrayVec}
use Rattle.ranking.specs.Lists.{Rows, rows, over}
use Rattle.ranking.specs.declared.Reading.{Reading}

-- the rows, or that there are too many
abbrev pub kept_rows : Option (ArrayVec Reading) → Rows
kept_rows None = over
kept_rows (Some v) = rows v.items
