-- `entry::find_references` meets its contract: what is said of the sheet decides. Assumes nothing.
use Rattle.std.proofs.Common.{rules, ◌≡◌, length, ap}
use Rattle.std.proofs.lemmas.Result.{err_from_is_err_and}
use Rattle.refusals.specs.Refusals.{room_for, output_by}
use Rattle.sheet.specs.Inputs.{by_sheet}
use Rattle.referred.specs.Report.{findings_of}
use Rattle.referred.specs.Codes.{codes_of}
use Rattle.referred.specs.Answers.{found_outcome, found_left}
use Rattle.referred.proofs.Answered.{refused, given}
use Rattle.referred.proofs.entry.find_references.Goals as goal

pub returns-in_err-with_findings : goal.returns-in_err-with_findings
unfolding found_outcome found_left
returns-in_err-with_findings c =
    let s = c.args.sheet.now in
    let p = err_from_is_err_and c.from_residual.result c.from_residual.ensures.1 in
    let e = c.in_err-with_findings.ensures in
    rw (p.1, p.2) (refused s (codes_of (findings_of s)) c.args.out.now _ _ (ap by_sheet e.0) e.1)

pub returns : goal.returns
unfolding found_outcome found_left
returns c =
    let s = c.args.sheet.now in
    let e = c.in_ok-with_findings.ensures in
    let h = e.given in
    let p : c.in_ok-with_findings.field-0 ≡ room_for (length (codes_of e.report.now.findings.now)) (length e.lent.now) = search rules in
    let q : e.left.now ≡ output_by c.in_ok-with_findings.field-0 (codes_of e.report.now.findings.now) e.lent.now = search rules in
    given s (codes_of (findings_of s)) c.args.out.now _ e.accepted _ (rw (e.report.now.found, e.of_sheet, e.before) at p) (rw (e.report.now.found, e.of_sheet, e.before, e.after) at q)
