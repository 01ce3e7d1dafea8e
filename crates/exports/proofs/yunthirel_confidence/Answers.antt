-- `exports::yunthirel_confidence` meets its contract: the decision's confidence, or that of a refusal. Assumes nothing.
use mathlib.Core.Path.{sym, ap, ◌∙◌}
use Rattle.exports.specs.Codes.{confidence_of}
use Rattle.exports.proofs.yunthirel_confidence.Goals as goal

pub returns-in-Ok : goal.returns-in-Ok
returns-in-Ok c = ap confidence_of (sym c.in-Ok.is ∙ c.classify_with_provenance.ensures)

pub returns-in-Err : goal.returns-in-Err
returns-in-Err c = ap confidence_of (sym c.in-Err.is ∙ c.classify_with_provenance.ensures)
