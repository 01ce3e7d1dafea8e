-- `entry::put_both` meets its contract: what is put so far and what is to come are all of it. Assumes nothing.
use Rattle.std.proofs.Common.{rules, arith}
use Rattle.std.proofs.lemmas.Grind.{common_steps}
use Rattle.writing.proofs.Puts.{put_into}
use Rattle.rescued.specs.Stretches.{cut_line}
use Rattle.rescued.proofs.Stretched.{kept_turn, report_turn, kept-end, report_end}
use Rattle.rescued.proofs.entry.put_both.Goals as goal

pub loop-walk-preserved-in-None : goal.loop-walk-preserved-in-None
unfolding cut_line
loop-walk-preserved-in-None c =
    let k = c.next_stretch-reached.ensures in
    let e = rw c.in-None.is at (kept_turn _ _ _ k) in
    let f = rw c.in-None.is at (report_turn _ _ _ k) in
    (k.inside, k.standing, grind (arith, common_steps), grind (arith, common_steps))

pub loop-walk-preserved : goal.loop-walk-preserved
loop-walk-preserved c =
    let k = c.next_stretch-reached.ensures in
    let e = rw c.in-Some.is at (kept_turn _ _ _ k) in
    let f = rw c.in-Some.is at (report_turn _ _ _ k) in
    (k.inside, k.standing, grind (arith, common_steps), grind (arith, common_steps))

pub returns : goal.returns
returns c =
    let l = c.loop-walk in
    let h = c.loop-walk-test.false in (
      put_into l.kept c.new-kept.ensures (rw (kept-end _ l.walk h) at l.invariant.2) c.at.ensures (search rules),
      put_into l.report c.new-report.ensures (rw (report_end _ l.walk h) at l.invariant.3) c.at-2.ensures (search rules),
    )
