-- `exports::yunthirel_origin` meets its contract: the decision, or the refusal, whose place is small enough. Assumes nothing.
use mathlib.Core.Path.{sym, ap, ◌∙◌}
use Rattle.exports.specs.Codes.{origin_code}
use Rattle.exports.proofs.Bounds.{decision-refused}
use Rattle.exports.proofs.yunthirel_origin.Goals as goal

pub refusal_code-requires : goal.refusal_code-requires
refusal_code-requires c =
    let a = c.args in
    decision-refused a.word.now a.sheet.now _ _ c.classify_with_provenance.ensures c.in-Err.is

pub returns-in-Ok : goal.returns-in-Ok
returns-in-Ok c =
    c.decision_code.ensures ∙ ap origin_code (sym c.in-Ok.is ∙ c.classify_with_provenance.ensures)

pub returns-in-Err : goal.returns-in-Err
returns-in-Err c =
    c.refusal_code.ensures ∙ ap origin_code (sym c.in-Err.is ∙ c.classify_with_provenance.ensures)
