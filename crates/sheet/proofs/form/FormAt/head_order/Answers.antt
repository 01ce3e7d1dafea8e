-- `form::head_order` meets its contract: by the letter first, then by the name. Assumes nothing.
use Rattle.std.proofs.Common.{rules, ◌∙◌}
use Rattle.sheet.proofs.Spaced.{head_by}
use Rattle.sheet.proofs.form.FormAt.head_order.Goals as goal

pub returns : goal.returns
returns c =
    let a = c.args in
    let f = a.self.now in
    head_by f.sheet.now f.at f.form a.letter a.head.now _ _ (c.cmp.ensures ∙ search rules) c.then_with.ensures (λ e. search rules)
