-- `sheet::line::Cursor::step` meets its contract: the end, no form, or the form that stands there. Assumes nothing.
use Rattle.std.proofs.Common.{◌≡◌, sym, ◌∙◌, arith}
use Rattle.std.specs.Prelude.{Some, None}
use Rattle.std.proofs.lemmas.Result.{err_from_is_err_and}
use Rattle.sheet.specs.declared.line.LineFault.TheVariants.{NoForm}
use Rattle.sheet.proofs.Stepped.{step_end, step_none, step_some}
use Rattle.sheet.proofs.line.Cursor.step.Goals as goal

pub returns-then-s-self : goal.returns-then-s-self
returns-then-s-self c = step_end c.args.s.now c.args.self.at c.if-s-self.true

pub returns-in_err-form : goal.returns-in_err-form
returns-in_err-form c =
    let p = err_from_is_err_and c.from_residual.result c.from_residual.ensures.1 in
    let n : c.form.result ≡ None = grind arith in
    let f : c.in_err-form.field-0.0 ≡ NoForm = grind arith in
    rw (p.1, p.2, f) (step_none c.args.s.now c.args.self.at c.if-s-self.false (sym n ∙ c.form.ensures))

pub returns : goal.returns
returns c =
    let n : c.form.result ≡ Some c.in_ok-form.form = grind arith in
    step_some c.args.s.now c.args.self.at _ c.if-s-self.false (sym n ∙ c.form.ensures)
