-- `entry::write_readings` meets its contract, by what the core call says. Assumes nothing.
use Rattle.std.proofs.lemmas.Result.{err_from_is_err_and}
use mathlib.Core.Path.{sym, ◌∙◌}
use Rattle.analysis.proofs.Answered.{answer-refused, answer-listed}
use Rattle.listing.proofs.Told.{gives_refused, gives_listed}
use Rattle.listing.proofs.entry.write_readings.Goals as goal

pub returns-in_err-list : goal.returns-in_err-list
returns-in_err-list c =
    let a = c.args in
    let p = err_from_is_err_and c.from_residual.result c.from_residual.ensures.1 in
    rw (p.1, p.2) (gives_refused a.word.now a.sheet.now a.out.now _ (answer-refused a.word.now a.sheet.now _ (sym c.analyze_affixes.ensures.0 ∙ c.in_err-list.was)))

pub returns : goal.returns
returns c =
    let a = c.args in
    let e = answer-listed a.word.now a.sheet.now c.in_ok-list.list (sym c.analyze_affixes.ensures.0 ∙ c.in_ok-list.was) in
    gives_listed a.word.now a.sheet.now _ _ _ _ e.0 e.1 c.write_listing.ensures.0 c.write_listing.ensures.1
