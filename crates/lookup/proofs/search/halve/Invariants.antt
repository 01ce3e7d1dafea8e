-- `search::halve` meets its contract: the numbers that are left stand as the contract says. The measure is how many there are. Assumes
-- nothing.
use Prim.Native.Nat.{◌-◌}
use Rattle.lookup.specs.Halved.{Left}
use Rattle.lookup.proofs.search.halve.Given as goal

abbrev pub invariant-loop-lo : goal.invariant-loop-lo
invariant-loop-lo g l = Left (goal.F-post g l.order) l.fn.first l.fn.end l.lo l.hi l.rounds

abbrev pub decreases-loop-lo : goal.decreases-loop-lo
decreases-loop-lo g l = l.hi - l.lo
