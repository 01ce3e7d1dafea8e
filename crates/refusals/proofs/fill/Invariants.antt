-- `fill` meets its contract: what was made of the rows so far stands before what the list held. Assumes nothing.
use mathlib.Core.Path.{◌≡◌}
use mathlib.Core.List.{◌++◌, map}
use lib.ListN.{take, drop}
use Rattle.refusals.specs.Made.{Makes}
use Rattle.refusals.proofs.fill.Given as goal

abbrev pub invariant-loop-i : goal.invariant-loop-i
invariant-loop-i g l = (of : _ → _) → Makes (goal.F-post g l.made) of → l.out ≡ map of (take l.i l.rows) ++ drop l.i l.initial.out
