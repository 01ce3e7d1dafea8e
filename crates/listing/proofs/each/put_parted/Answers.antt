-- `each::put_parted` meets its contract: what is put so far and what is to come are all of it. Assumes nothing.
use mathlib.Core.Path.{ap}
use Rattle.listing.proofs.Parted.{parted_turn}
use Rattle.listing.proofs.each.put_parted.Goals as goal

pub loop-i-preserved : goal.loop-i-preserved
loop-i-preserved g c = λ text h.
    let e = h _ _ _ c.put.ensures in
    cc (e, ap text c.index-xs-i.is, c.put_gap.ensures, parted_turn text c.args.xs.now c.loop-i.w c.loop-i.i c.index-xs-i.result c.loop-i-test.true, c.loop-i.invariant text h)
