-- `each::put_each` meets its contract: what is put so far and what is to come are all of it. Assumes nothing.
use mathlib.Core.Path.{ap}
use Rattle.listing.proofs.Parted.{row_turn}
use Rattle.listing.proofs.each.put_each.Goals as goal

pub loop-x-preserved : goal.loop-x-preserved
loop-x-preserved g c = λ text h.
    let e = h _ _ _ c.put.ensures in
    cc (e, ap text c.x-item.is, row_turn text c.args.xs.now c.loop-x.w c.loop-x.x-index c.x-item.result c.loop-x-test.true, c.loop-x.invariant text h)
