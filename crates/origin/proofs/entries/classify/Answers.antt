-- `entries::classify` meets its contract: the decision's origin alone. Assumes nothing.
use Rattle.std.proofs.lemmas.Result.{err_from_is_err_and}
use mathlib.Core.Path.{sym, ap, ◌∙◌}
use Rattle.origin.specs.Answers.{origin_only}
use Rattle.origin.proofs.entries.classify.Goals as goal

pub returns-in_err-decision : goal.returns-in_err-decision
returns-in_err-decision c =
    let p = err_from_is_err_and c.from_residual.result c.from_residual.ensures.1 in
    rw (p.1, p.2) (ap origin_only (sym c.in_err-decision.was ∙ c.classify_with_provenance.ensures))

pub returns : goal.returns
returns c = ap origin_only (sym c.in_ok-decision.was ∙ c.classify_with_provenance.ensures)
