-- `keys::name_order` meets its contract: a name that begins with q is q where it ends with it, and above q where it goes on.
-- Assumes nothing.
use mathlib.Core.Path.{refl, sym, ◌∙◌}
use Rattle.std.proofs.Common.{rules}
use borrow.Author.Tests.{ltb-true, ltb-false}
use lib.ListN.{length}
use Rattle.sheet.proofs.Spaced.{spaced-past, spaced-none, spaced-cons, name_decides, name-leaves, not_equal}
use Rattle.sheet.proofs.keys.name_order.Goals as goal

pub returns-in-None : goal.returns-in-None
returns-in-None c =
    let a = c.args in
    name-leaves a.t.now a.q.now _ _ c.along.ensures c.in-Equal.is (spaced-past a.t.now _ (ltb-false _ _ (sym c.in-None.ensures.lookup.0)))

pub returns-in-Some-eq32 : goal.returns-in-Some-eq32
returns-in-Some-eq32 c =
    let a = c.args in
    name-leaves a.t.now a.q.now _ _ c.along.ensures c.in-Equal.is (spaced-none a.t.now _ (ltb-true _ _ (sym c.in-Some-eq32.ensures.lookup.0)) (search rules))

pub returns-in-Some : goal.returns-in-Some
returns-in-Some c =
    let a = c.args in
    name-leaves a.t.now a.q.now _ _ c.along.ensures c.in-Equal.is (spaced-cons a.t.now (length a.q.now) (ltb-true _ _ (sym c.in-Some.ensures.lookup.0)) (search rules))

pub returns-in_default : goal.returns-in_default
returns-in_default c =
    let a = c.args in
    sym (not_equal c.along.result _ (λ e. c.in_default.not-Equal e)) ∙ name_decides a.t.now a.q.now _ _ c.along.ensures refl
