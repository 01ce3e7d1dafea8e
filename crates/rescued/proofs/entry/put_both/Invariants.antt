-- `entry::put_both` meets its contract: what is put so far and what is to come are all of it. Assumes nothing.
use Prim.Native.Nat.{◌-◌, ◌≤◌}
use mathlib.Core.Path.{◌≡◌}
use lib.ListN.{length}
use Rattle.sheet.specs.Walks.{Standing}
use Rattle.writing.specs.Writers.{with_text}
use Rattle.rescued.specs.Stretches.{kept_of, report_of, kept_over, report_over}
use Rattle.rescued.specs.Places.{ahead}
use Rattle.rescued.proofs.entry.put_both.Given as goal

abbrev pub invariant-loop-walk : goal.invariant-loop-walk
invariant-loop-walk l = (l.walk.at ≤ length l.sheet)
    × Standing l.sheet l.walk.last
    × (with_text l.kept (kept_over l.sheet (ahead l.sheet l.walk)) ≡ with_text l.initial.kept (kept_of l.sheet))
    × (with_text l.report (report_over (ahead l.sheet l.walk)) ≡ with_text l.initial.report (report_of l.sheet))

abbrev pub decreases-loop-walk : goal.decreases-loop-walk
decreases-loop-walk l = length l.sheet - l.walk.at
