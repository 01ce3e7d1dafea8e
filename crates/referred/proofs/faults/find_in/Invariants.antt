-- `faults::find_in` meets its contract: the findings kept so far and those of the lines to come are all of them. Assumes nothing.
use Rattle.referred.proofs.Kept.{Kept}
use Rattle.referred.proofs.faults.find_in.Given as goal

abbrev pub invariant-loop-start : goal.invariant-loop-start
invariant-loop-start l = Kept l.sheet.bytes.now l.sheet.starts.now l.initial.out l.out l.n l.start-index
