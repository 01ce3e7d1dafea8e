-- `lines::check_lines` meets its contract: all lines are judged as those from the walk's place on; the stored starts, and those of the
-- lines to come, are the starts of all lines. Assumes nothing.
use Prim.Native.Nat.{◌-◌, ◌*◌, ◌≤◌}
use mathlib.Core.Path.{◌≡◌}
use mathlib.Core.List.{◌++◌}
use lib.ListN.{length, take, drop}
use Rattle.sheet.specs.Limits.{shortest_line}
use Rattle.sheet.specs.Lines.{starts_of, sheet_check}
use Rattle.sheet.specs.Walks.{Standing, starts_ahead}
use Rattle.sheet.proofs.Walks.{judged_ahead}
use Rattle.lookup.proofs.lines.check_lines.Given as goal

abbrev pub invariant-loop-form : goal.invariant-loop-form
invariant-loop-form l = (l.walk.at ≤ length l.s)
    × Standing l.s l.walk.last
    × (sheet_check l.s ≡ judged_ahead l.s l.walk)
    × (length l.out ≡ length l.initial.out)
    × (shortest_line * l.n ≤ l.walk.at)
    × (starts_of l.s ≡ take l.n l.out ++ starts_ahead l.s l.walk)
    × (drop l.n l.out ≡ drop l.n l.initial.out)

abbrev pub decreases-loop-form : goal.decreases-loop-form
decreases-loop-form l = length l.s - l.walk.at
