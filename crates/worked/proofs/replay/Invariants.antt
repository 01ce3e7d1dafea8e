-- `worked::replay` ends: each case leaves less of the text.
use Rattle.std.proofs.Common.{length}
use Rattle.worked.proofs.replay.Given as goal

abbrev pub decreases-loop-case : goal.decreases-loop-case
decreases-loop-case g l = length l.rest
