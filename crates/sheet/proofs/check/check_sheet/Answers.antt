-- `check::check_sheet` meets its contract: all lines are judged as those from the walk's place on. Assumes nothing.
use Rattle.std.proofs.Common.{rules}
use Rattle.std.proofs.lemmas.Result.{err_from_is_err_and}
use Rattle.std.specs.Prelude.{Ok, Err}
use native.Mathlib.Omega.{arith}
use mathlib.Core.Path.{sym, subst, ◌∙◌}
use Rattle.sheet.proofs.Walks.{Turn, Formed, turn, faults_mapped, ok_left, check_long, check_walk}
use Rattle.sheet.proofs.check.check_sheet.Goals as goal
use Rattle.sheet.proofs.check.check_sheet.Goals.{In_ok-form, In-Some}

pub returns-then-s-gt-SHEET_BYTES : goal.returns-then-s-gt-SHEET_BYTES
returns-then-s-gt-SHEET_BYTES c = check_long _ c.if-s-gt-SHEET_BYTES.true

pub loop-form-init : goal.loop-form-init
loop-form-init c = (omega arith, tt, check_walk _ c.if-s-gt-SHEET_BYTES.false)

pub returns-in_err-form : goal.returns-in_err-form
returns-in_err-form c =
    let p = err_from_is_err_and c.from_residual.result c.from_residual.ensures.1 in
    let m = faults_mapped c.loop-form.walk.at c.step.result _ c.map_err.result c.map_err.ensures.cases (λ e d k. search rules) _ c.in_err-form.was in
    rw (p.1, p.2, m.2) (sym (c.loop-form.invariant.2 ∙ (turn c.args.s.now c.loop-form.walk (Err m.0) (sym m.1 ∙ c.step.ensures)).said))

-- what the step gave where it refused nothing
given : (c : In_ok-form) → Turn c.args.s.now c.loop-form.walk (Ok c.in_ok-form.field-0)
given c = turn c.args.s.now c.loop-form.walk _ (sym (ok_left c.loop-form.walk.at c.step.result _ c.map_err.result c.map_err.ensures.cases _ c.in_ok-form.was) ∙ c.step.ensures)

-- the form that was reached
form : (c : In-Some) → Turn c.args.s.now c.loop-form.walk (Ok c.in_ok-form.field-0) → Formed c.args.s.now c.loop-form.walk c.in-Some.form
form c t = subst (λ o. Turn c.args.s.now c.loop-form.walk (Ok o)) c.in-Some.is t

pub loop-form-smaller : goal.loop-form-smaller
loop-form-smaller c = let f = form (goal.at.loop-form-smaller c).In-Some (given (goal.at.loop-form-smaller c).In_ok-form) in omega (arith, f.longer, f.fits)

pub loop-form-preserved : goal.loop-form-preserved
loop-form-preserved c =
    let f = form (goal.at.loop-form-preserved c).In-Some (given (goal.at.loop-form-preserved c).In_ok-form) in
    (f.fits, f.standing, c.loop-form.invariant.2 ∙ f.said)

pub returns : goal.returns
returns c =
    let e = subst (λ o. Turn c.args.s.now c.loop-form.walk (Ok o)) c.in_default.is (given (goal.at.returns c).In_ok-form) in
    sym (c.loop-form.invariant.2 ∙ e.said)
