-- `suffixes::strip_rows` meets its contract: what all rows leave is what those to come leave of the stage. Assumes nothing.
use mathlib.Core.Path.{◌≡◌}
use lib.ListN.{drop}
use Rattle.lookup.specs.Lexicons.{replies}
use Rattle.tables.specs.Rows.{suffixes}
use Rattle.decomposition.specs.Strips.{strip_rows}
use Rattle.decomposition.specs.Parts.{whole_stage}
use Rattle.decomposition.specs.Places.{stage_of, Held}
use Rattle.decomposition.proofs.suffixes.strip_rows.Given as goal

abbrev pub invariant-loop-k : goal.invariant-loop-k
invariant-loop-k l = Held l.piece l.k l.s × (strip_rows (replies l.sheet) l.least 0 suffixes (whole_stage l.piece) ≡ strip_rows (replies l.sheet) l.least l.k (drop l.k suffixes) (stage_of l.piece l.s))
