-- `origins::classify_rows` meets its contract: the list holds the rows so far, each with what is decided of its root. Assumes nothing.
use mathlib.Core.Path.{◌≡◌}
use mathlib.Core.List.{map}
use lib.ListN.{take}
use Rattle.sheet.specs.Replies.{reply}
use Rattle.paths.specs.Readings.{classified}
use Rattle.analysis.proofs.origins.classify_rows.Given as goal

abbrev pub invariant-loop-reading : goal.invariant-loop-reading
invariant-loop-reading l = l.list.items ≡ map (classified (reply l.sheet.bytes.now) l.word) (take l.reading-index l.rows.items)
