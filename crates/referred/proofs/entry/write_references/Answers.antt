-- `entry::write_references` meets its contract: what is said of the sheet decides. Assumes nothing.
use Rattle.std.proofs.Common.{rules, ◌∙◌, ap, sym, ℕ}
use Rattle.std.specs.Prelude.{Result}
use Rattle.refusals.specs.declared.Refusal.{Refusal}
use Rattle.std.proofs.lemmas.Result.{err_from_is_err_and}
use Rattle.refusals.specs.Refusals.{output_by}
use Rattle.writing.specs.Placed.{Answer}
use Rattle.sheet.specs.Inputs.{by_sheet}
use Rattle.referred.specs.Report.{report_text}
use Rattle.referred.specs.Answers.{report_outcome, report_left}
use Rattle.referred.proofs.Answered.{refused, given}
use Rattle.referred.proofs.entry.write_references.Goals as goal

pub returns-in_err-with_findings : goal.returns-in_err-with_findings
unfolding report_outcome report_left
returns-in_err-with_findings c =
    let s = c.args.sheet.now in
    let p = err_from_is_err_and c.from_residual.result c.from_residual.ensures.1 in
    let e = c.in_err-with_findings.ensures in
    rw (p.1, p.2) (refused s (report_text s) c.args.out.now _ _ (ap by_sheet e.0) e.1)

pub returns : goal.returns
unfolding report_outcome report_left
returns c =
    let s = c.args.sheet.now in
    let e = c.in_ok-with_findings.ensures in
    let h = e.given in
    let a : Answer (report_text e.report.now.sheet.now) e.lent.now e.left.now c.in_ok-with_findings.field-0 = search rules in
    given s (report_text s) c.args.out.now _ e.accepted _ (rw (e.of_sheet, e.before) at a.given) (rw (e.of_sheet, e.before, e.after) at (a.left ∙ ap (λ (x : Result ℕ Refusal). output_by x (report_text e.report.now.sheet.now) e.lent.now) (sym a.given)))
