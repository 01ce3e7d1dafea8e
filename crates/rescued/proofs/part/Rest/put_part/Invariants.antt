-- `part::Rest::put_part` meets its contract: what is put so far and what is to come are all of it. Assumes nothing.
use Prim.Native.Nat.{◌-◌}
use lib.ListN.{length}
use Rattle.rescued.proofs.Parting.{Part-way}
use Rattle.rescued.proofs.part.Rest.put_part.Given as goal

abbrev pub invariant-loop-walk : goal.invariant-loop-walk
invariant-loop-walk l = Part-way l.sheet l.initial.walk l.walk l.initial.w l.w

abbrev pub decreases-loop-walk : goal.decreases-loop-walk
decreases-loop-walk l = length l.sheet - l.walk.at
