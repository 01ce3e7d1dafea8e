-- `visits::lines::put_word` meets its contract: the refusal of the word, or the line with the core call's number. Assumes nothing.
use Rattle.std.proofs.Common.{arith}
use Rattle.std.proofs.lemmas.Grind.{common_steps}
use Rattle.visits.specs.Printed.{visit_line}
use Rattle.visits.proofs.Stretches.{line_refused, line_told}
use mathlib.Core.Path.{sym, ◌∙◌}
use Rattle.visits.proofs.lines.put_word.Goals as goal

pub returns-in-Err : goal.returns-in-Err
returns-in-Err c =
    let e = line_refused c.args.sheet.now.bytes.now c.args.word.now c.in-Err.fault (sym c.check_word.ensures ∙ c.in-Err.is) in
    rw (e, sym c.from.ensures) c.put.ensures

pub returns-in-Ok : goal.returns-in-Ok
unfolding visit_line
returns-in-Ok c =
    let e = line_told c.args.sheet.now.bytes.now c.args.word.now (sym c.check_word.ensures ∙ c.in-Ok.is) c.args.sheet.now.indexed.accepted _ c.analyze_affixes_in-analysis.ensures.1 in
    grind (arith, common_steps)
