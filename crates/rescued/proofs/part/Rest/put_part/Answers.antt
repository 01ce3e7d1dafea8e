-- `part::Rest::put_part` meets its contract: what is put so far and what is to come are all of it. Assumes nothing.
use Rattle.std.proofs.Common.{arith, sym, refl}
use Rattle.writing.proofs.Puts.{put_into, same_buffer}
use Rattle.writing.proofs.Wholes.{front}
use Rattle.rescued.specs.Stretches.{cut_line}
use Rattle.rescued.proofs.Parting.{way_more, way_parted}
use Rattle.rescued.proofs.part.Rest.put_part.Goals as goal
use Rattle.rescued.proofs.part.Rest.put_part.Goals.{then-loop-walk-test+else-at-le4072, else-loop-walk-test}

pub loop-walk-preserved-in-Some : goal.loop-walk-preserved-in-Some
loop-walk-preserved-in-Some c =
    way_more _ _ _ _ _ c.loop-walk.invariant c.args.self.now.torn.short c.loop-walk-test.true (omega arith) _ c.next_stretch-reached.ensures _ (rw c.in-Some.is c.put_cut.ensures)

pub loop-walk-preserved : goal.loop-walk-preserved
unfolding cut_line
loop-walk-preserved c =
    way_more _ _ _ _ _ c.loop-walk.invariant c.args.self.now.torn.short c.loop-walk-test.true (omega arith) _ c.next_stretch-reached.ensures _ (rw c.in_default.is refl)

pub shape_of-out : goal.shape_of-out
shape_of-out c = let k = c.loop-walk.invariant in sym (same_buffer k.done c.new-w.ensures k.put)

pub returns : goal.returns
returns c =
    let k = c.loop-walk.invariant in
    let a = front {text = k.done} (put_into c.loop-walk.w c.new-w.ensures k.put c.at-2.ensures (λ _. refl)) (omega arith) (omega arith) in
    (refl, way_parted _ _ _ _ _ k a (elim c.loop-walk-test.branch [ then-loop-walk-test+else-at-le4072 w ↦ λ h. omega arith | else-loop-walk-test w ↦ λ h. omega arith ]))
