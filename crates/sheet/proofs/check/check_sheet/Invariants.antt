-- `check::check_sheet` meets its contract: all lines are judged as those from the walk's place on. Assumes nothing.
use Prim.Native.Nat.{◌-◌, ◌≤◌}
use mathlib.Core.Path.{◌≡◌}
use lib.ListN.{length}
use Rattle.sheet.specs.Lines.{sheet_check}
use Rattle.sheet.specs.Walks.{Standing}
use Rattle.sheet.proofs.Walks.{judged_ahead}
use Rattle.sheet.proofs.check.check_sheet.Given as goal

abbrev pub invariant-loop-form : goal.invariant-loop-form
invariant-loop-form l = (l.walk.at ≤ length l.s) × Standing l.s l.walk.last × (sheet_check l.s ≡ judged_ahead l.s l.walk)

abbrev pub decreases-loop-form : goal.decreases-loop-form
decreases-loop-form l = length l.s - l.walk.at
