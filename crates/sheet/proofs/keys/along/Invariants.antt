-- `keys::along` meets its contract: what is left of the name stands to what is left of the head as the name does to the head.
-- Assumes nothing.
use mathlib.Core.Path.{◌≡◌}
use lib.ListN.{drop}
use Rattle.sheet.specs.Keys.{spaced, headed}
use Rattle.sheet.proofs.keys.along.Given as goal

abbrev pub invariant-loop-y : goal.invariant-loop-y
invariant-loop-y l = headed (spaced l.t) l.p ≡ headed (spaced l.name) (drop l.y-index l.p)
