-- `answers::spot_of` meets its contract: the name of the line found stands between its own ends. Assumes nothing.
use Rattle.std.proofs.Common.{arith}
use Rattle.lookup.proofs.Parts.{found-none, found-name}
use Rattle.lookup.proofs.lexicon.Lexicon.spot_of.Goals as goal

pub returns-in_err-line : goal.returns-in_err-line
returns-in_err-line c = rw c.from_residual.ensures (found-none _ _ _ _ c.seek.ensures.0 c.in_err-line.was).1

pub overflow_sub-result : goal.overflow_sub-result
overflow_sub-result c = omega (arith, c.name_ends-start.ensures.0, c.name_ends-start.ensures.1)

pub returns : goal.returns
returns c = found-name _ _ _ _ c.seek.ensures.0 _ c.in_ok-line.was _ _ c.name_ends-start.ensures.0 c.name_ends-start.ensures.1
