-- The report meets its contract: a form stands where each finding says. Assumes nothing.
use Rattle.std.proofs.Common.{arith, subst, sym}
use Rattle.std.proofs.lemmas.Grind.{common_steps}
use Rattle.referred.specs.Report.{report_text}
use Rattle.referred.proofs.Found.{FormsAt, forms_found, lines_end}
use Rattle.referred.proofs.lines.ReportPrinted.put.Goals as goal

pub put_line-requires : goal.put_line-requires
put_line-requires c =
    let r = c.args.self.now in
    subst (FormsAt r.sheet.now) (sym r.found) (forms_found r.sheet.now r.accepted) _ _ c.loop-finding-test.true

pub returns : goal.returns
unfolding report_text
returns c =
    let r = c.args.self.now in
    rw (sym r.found) (grind (arith, common_steps, lines_end))
