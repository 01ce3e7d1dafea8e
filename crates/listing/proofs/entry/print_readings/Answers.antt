-- `entry::print_readings` meets its contract, by what the core call says. Assumes nothing.
use mathlib.Core.Path.{sym, ◌∙◌}
use Rattle.analysis.proofs.Answered.{answer-refused, answer-listed}
use Rattle.listing.proofs.Told.{prints-refused, prints-listed}
use Rattle.listing.proofs.entry.print_readings.Goals as goal

pub returns-in-Err : goal.returns-in-Err
returns-in-Err c =
    let a = c.args in
    prints-refused a.word.now a.sheet.now _ (answer-refused a.word.now a.sheet.now _ (sym c.analyze_affixes-answer.ensures.0 ∙ c.in-Err.is)) c.write_refused.ensures

pub returns-in-Ok : goal.returns-in-Ok
returns-in-Ok c =
    let a = c.args in
    let e = answer-listed a.word.now a.sheet.now c.in-Ok.list (sym c.analyze_affixes-answer.ensures.0 ∙ c.in-Ok.is) in
    prints-listed a.word.now a.sheet.now _ e.0 e.1 c.write_listing.ensures.0 c.write_listing.ensures.1
