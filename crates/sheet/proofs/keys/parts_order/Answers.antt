-- `keys::parts_order` meets its contract: what the first part leaves open the second decides.
-- Assumes nothing.
use mathlib.Core.Path.{refl, sym, ◌∙◌}
use Rattle.sheet.proofs.Spaced.{first_decides, not_equal}
use Rattle.sheet.proofs.keys.parts_order.Goals as goal

pub returns-in_default : goal.returns-in_default
returns-in_default c =
    let a = c.args in
    sym (not_equal c.along.result _ (λ e. c.in_default.not-Equal e)) ∙ first_decides a.t.now a.p.now a.q.now _ _ c.along.ensures refl
