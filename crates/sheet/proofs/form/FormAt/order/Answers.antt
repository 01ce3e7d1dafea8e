-- `form::order` meets its contract: by the letter first, then by the name. Assumes nothing.
use Rattle.std.proofs.Common.{rules, ◌∙◌, ◌++◌}
use Rattle.sheet.proofs.Spaced.{line_by}
use Rattle.sheet.proofs.form.FormAt.order.Goals as goal

pub returns : goal.returns
returns c =
    let a = c.args in
    let f = a.self.now in
    line_by f.sheet.now f.at f.form a.letter (a.p.now ++ a.q.now) _ _ (c.cmp.ensures ∙ search rules) c.then_with.ensures (λ e. search rules)
