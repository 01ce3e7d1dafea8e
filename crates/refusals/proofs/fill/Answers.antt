-- `fill` meets its contract: what was made of the rows so far stands before what the list held. Assumes nothing.
use Rattle.std.proofs.Common.{arith, ap, ◌∙◌}
use Rattle.refusals.proofs.Outputs.{filled_turn}
use Rattle.refusals.proofs.fill.Goals as goal

pub loop-i-preserved : goal.loop-i-preserved
loop-i-preserved g c = λ of h.
    rw (c.loop-i.invariant of h, h _ _ c.made.ensures ∙ ap of c.index-rows-i.is) (filled_turn of c.args.rows.now c.args.out.now c.loop-i.i c.index-rows-i.result (omega arith) (omega arith))
