-- `runs::ends_with` meets its contract: the last bytes of both runs, as many as have been seen, are the same.
-- Assumes nothing.
use Rattle.std.proofs.Common.{◌≡◌, true, length, drop}
use Rattle.runs.specs.Runs.{same_text}
use Rattle.runs.proofs.ends_with.Given as goal

abbrev pub invariant-loop-k : goal.invariant-loop-k
invariant-loop-k l = (length l.end ≡ length l.tail) × (same_text (drop l.k l.end) (drop l.k l.tail) ≡ true)
