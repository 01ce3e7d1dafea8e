-- The report meets its contract: the lines put so far and those to come are all of them. Assumes nothing.
use mathlib.Core.Path.{◌≡◌}
use lib.ListN.{drop}
use Rattle.writing.specs.Writers.{with_text}
use Rattle.referred.specs.Report.{finding_lines}
use Rattle.referred.proofs.lines.ReportPrinted.put.Given as goal

abbrev pub invariant-loop-finding : goal.invariant-loop-finding
invariant-loop-finding l = with_text l.w (finding_lines l.self.sheet.now (drop l.finding-index l.finding-items)) ≡ with_text l.initial.w (finding_lines l.self.sheet.now l.finding-items)
