-- `analysis::entry::unless_empty` meets its contract. Assumes nothing.
use borrow.Author.Tests.{eq-eqb, ne_eqb}
use Rattle.analysis.proofs.entry.unless_empty.Goals as goal

pub returns-then-len-eq0 : goal.returns-then-len-eq0
returns-then-len-eq0 c = simp (eq-eqb _ _ c.if-len-eq0.true)

pub returns-else-len-eq0 : goal.returns-else-len-eq0
returns-else-len-eq0 c = simp (ne_eqb _ _ c.if-len-eq0.false)
