-- `answers::value_of` meets its contract: the value of the line found is what the sheet replies. Assumes nothing.
use Rattle.lookup.proofs.Parts.{found-none, found-value}
use Rattle.lookup.proofs.lexicon.Lexicon.value_of.Goals as goal

pub returns-in_err-line : goal.returns-in_err-line
returns-in_err-line c = rw c.from_residual.ensures (found-none _ _ _ _ c.seek.ensures.0 c.in_err-line.was).0

pub returns : goal.returns
returns c = found-value _ _ _ _ c.seek.ensures.0 _ c.in_ok-line.was _ c.value_spot.ensures.0 c.value_spot.ensures.1
