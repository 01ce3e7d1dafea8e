-- `report` ends: each part passes a line at least. What was told so far and the report of what is to come are the report.
use Rattle.std.proofs.Common.{◌≡◌, ◌-◌, List, ℕ, ◌++◌, length}
use Rattle.std.specs.Io.KnownBytes.{Appends}
use Rattle.rescued.specs.Stretches.{report_of, report_over}
use Rattle.rescued.specs.Places.{ahead}
use Rattle.rescue.proofs.report.Given as goal

abbrev pub invariant-loop-rest : goal.invariant-loop-rest
invariant-loop-rest g l =
    (l.rest.torn ≡ l.torn)
    × ((done : List ℕ) × Appends (g.W.Write.contents l.initial.told) (g.W.Write.contents l.told) done × (done ++ report_over (ahead l.torn.sheet.now l.rest.walk) ≡ report_of l.torn.sheet.now))

abbrev pub decreases-loop-rest : goal.decreases-loop-rest
decreases-loop-rest g l = length l.torn.sheet.now - l.rest.walk.at
