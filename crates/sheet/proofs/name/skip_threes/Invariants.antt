-- `sheet::name::skip_threes` meets its contract: what has been passed are whole characters of the name. Assumes nothing.
use lib.ListN.{length}
use Rattle.sheet.proofs.Fronts.{Ahead}
use Rattle.sheet.proofs.name.skip_threes.Given as goal

abbrev pub invariant-loop-rest : goal.invariant-loop-rest
invariant-loop-rest l = Ahead l.t l.rest

abbrev pub decreases-loop-rest : goal.decreases-loop-rest
decreases-loop-rest l = length l.rest
