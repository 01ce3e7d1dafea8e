-- `form::letter` meets its contract: a form has its letter at its second byte. Assumes nothing.
use mathlib.Core.Path.{sym}
use native.Mathlib.Omega.{arith}
use Rattle.sheet.proofs.Forms.{line-fits, line-letter}
use Rattle.sheet.proofs.form.FormAt.letter.Goals as goal

pub overflow_add-result : goal.overflow_add-result
overflow_add-result c = omega (arith, line-fits c.args.self.now.sheet.now c.args.self.now.at c.args.self.now.form)

pub bounds-self-self : goal.bounds-self-self
bounds-self-self c = omega (arith, line-fits c.args.self.now.sheet.now c.args.self.now.at c.args.self.now.form)

pub returns : goal.returns
returns c = sym (line-letter c.args.self.now.sheet.now c.args.self.now.at c.args.self.now.form)
