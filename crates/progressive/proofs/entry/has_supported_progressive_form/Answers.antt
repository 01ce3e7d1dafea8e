-- `entry::has_supported_progressive_form` meets its contract: an answer says whether a form is found. Assumes nothing.
use Rattle.std.specs.Prelude.{Ok}
use mathlib.Core.Path.{ap, ◌∙◌}
use Rattle.std.proofs.lemmas.Result.{err_from_is_err_and}
use Rattle.progressive.proofs.Entries.{support_settled}
use Rattle.progressive.proofs.entry.has_supported_progressive_form.Goals as goal

pub returns-in_err-form : goal.returns-in_err-form
returns-in_err-form c =
    let a = c.args in
    let p = err_from_is_err_and c.from_residual.result c.from_residual.ensures.1 in
    rw (p.1, p.2) (support_settled a.word.now a.sheet.now _ _ c.analyze_progressive.ensures c.in_err-form.was)

pub returns : goal.returns
returns c =
    let a = c.args in
    ap Ok c.is_some.ensures ∙ support_settled a.word.now a.sheet.now _ _ c.analyze_progressive.ensures c.in_ok-form.was
