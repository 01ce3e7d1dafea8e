-- `form::order_behind` meets its contract: a line whose key begins so has the letter, and its name begins with p. Assumes nothing.
use mathlib.Core.Path.{sym, ap, subst, ◌∙◌}
use mathlib.Core.List.{List, ◌++◌}
use Prim.Native.Nat.{ℕ}
use Rattle.runs.specs.Runs.{cmp}
use Rattle.std.proofs.Common.{◌≡◌}
use Rattle.std.specs.declared.cmp.Ordering.TheVariants.{Equal}
use Rattle.sheet.specs.Keys.{spaced, headed}
use Rattle.sheet.proofs.Spaced.{line_same, head_line_equal}
use Rattle.sheet.proofs.form.FormAt.order_behind.Goals as goal

pub rest_order-requires : goal.rest_order-requires
rest_order-requires c =
    let a = c.args in
    let f = a.self.now in
    subst (λ (l : List ℕ). headed (spaced l) a.p.now ≡ Equal) (sym c.from_name.ensures)
    (head_line_equal f.sheet.now f.at f.form a.letter a.p.now c.requires).1

pub returns : goal.returns
returns c =
    let a = c.args in
    let f = a.self.now in
    let q = a.p.now ++ a.q.now in
    c.rest_order.ensures ∙ ap (λ (l : List ℕ). cmp (spaced l) q) c.from_name.ensures
    ∙ sym (line_same f.sheet.now f.at f.form a.letter q (head_line_equal f.sheet.now f.at f.form a.letter a.p.now c.requires).0)
