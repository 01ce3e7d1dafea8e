-- `answers::kind_of` meets its contract: the kind that the value spells. Assumes nothing.
use Rattle.lookup.proofs.Parts.{one_found, kind_none, kind_read}
use Rattle.lookup.proofs.lexicon.Lexicon.kind_of.Goals as goal

pub returns-in_err-line : goal.returns-in_err-line
returns-in_err-line c = rw c.from_residual.ensures (kind_none _ c.args.name.now _ (one_found _ _ _ _ c.seek.ensures.0) c.in_err-line.was)

pub returns-then-same : goal.returns-then-same
returns-then-same c = kind_read _ c.args.name.now _ (one_found _ _ _ _ c.seek.ensures.0) _ c.in_ok-line.was _ c.value.ensures _ _ c.same.ensures c.if-same.true

pub returns-else-same : goal.returns-else-same
returns-else-same c = kind_read _ c.args.name.now _ (one_found _ _ _ _ c.seek.ensures.0) _ c.in_ok-line.was _ c.value.ensures _ _ c.same.ensures c.if-same.false
