-- `search::halve` meets its contract: the numbers that are left stand as the contract says. Assumes nothing.
use Rattle.std.proofs.Common.{rules, arith}
use Rattle.lookup.proofs.Halving.{as_said, left_all, left_here, left_up, left_down}
use Rattle.lookup.proofs.search.halve.Goals as goal

pub loop-lo-init : goal.loop-lo-init
loop-lo-init g c = left_all _ _ _ 0 0 0 c.requires.bounds

pub overflow_add-rounds : goal.overflow_add-rounds
overflow_add-rounds g c = omega (arith, c.loop-lo.invariant.fewer)

pub order-requires : goal.order-requires
order-requires g c = search (rules, c.requires.callable)

pub loop-lo-preserved-in-Less : goal.loop-lo-preserved-in-Less
loop-lo-preserved-in-Less g c = left_up _ _ _ _ _ _ c.loop-lo.invariant c.loop-lo-test.true (as_said (goal.F-post g c.args.order) _ _ _ c.in-Less.is c.order.ensures)

pub returns-in-Equal : goal.returns-in-Equal
returns-in-Equal g c = left_here _ _ _ _ _ _ c.loop-lo.invariant c.loop-lo-test.true (as_said (goal.F-post g c.args.order) _ _ _ c.in-Equal.is c.order.ensures)

pub loop-lo-preserved : goal.loop-lo-preserved
loop-lo-preserved g c = left_down _ _ _ _ _ _ c.loop-lo.invariant c.loop-lo-test.true (as_said (goal.F-post g c.args.order) _ _ _ c.in-Greater.is c.order.ensures)

pub returns : goal.returns
returns g c =
    let l = c.loop-lo.invariant in
    record { ahead = l.ahead; inside = l.inside; below = l.below; above = l.above; stopped = omega (arith, l.ordered, c.loop-lo-test.false); counted = λ k h. (l.counted k h).0 }
