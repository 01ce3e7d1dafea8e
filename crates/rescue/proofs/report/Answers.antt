-- `rescue::report` tells the report: part by part, and at the end nothing is left of it. Assumes nothing.
use Rattle.std.proofs.Common.{length, [], ◌<◌, ◌≤◌}
use mathlib.Core.Path.{sym, ap, subst, ◌∙◌}
use native.Mathlib.Omega.{arith}
use borrow.Author.Tests.{leb-true, leb-false}
use Rattle.intake.proofs.Told.{told_none, told_both}
use Rattle.sheet.specs.declared.walk.Walk.{Walk}
use Rattle.rescued.specs.declared.part.Torn.{Torn}
use Rattle.rescued.specs.Stretches.{report_over}
use Rattle.rescued.specs.Places.{ahead}
use Rattle.rescued.proofs.Stretched.{report_end}
use Rattle.rescue.proofs.Told.{part_of, part_more, part_last}
use Rattle.rescue.proofs.report.Goals as goal

pub loop-rest-init : goal.loop-rest-init
loop-rest-init g c =
    let e = c.report-rest.ensures in
    (e.0, ([], told_none _, ap (λ (w : Walk). report_over (ahead c.args.torn.now.sheet.now w)) e.1))

pub loop-rest-smaller : goal.loop-rest-smaller
loop-rest-smaller g c =
    let same = c.loop-rest.invariant.0 in
    let left = subst (λ (t : Torn). c.loop-rest.rest.walk.at < length t.sheet.now) same (leb-false _ _ (sym c.is_over.ensures ∙ c.loop-rest-test.true)) in
    let p = part_of same c.put_part-part.ensures.1 in
    omega (arith, p.further left)

pub loop-rest-preserved : goal.loop-rest-preserved
loop-rest-preserved g c =
    let i = c.loop-rest.invariant in
    let p = part_of i.0 c.put_part-part.ensures.1 in
    (c.put_part-part.ensures.0 ∙ i.0, (_, told_both _ _ _ _ _ i.1.1 c.in_ok-write_all.ensures.bytes, part_more _ _ _ _ _ i.1.2 p.joined))

pub returns : goal.returns
returns g c =
    let i = c.loop-rest.invariant in
    let over = subst (λ (t : Torn). length t.sheet.now ≤ c.loop-rest.rest.walk.at) i.0 (leb-true _ _ (sym c.is_over.ensures ∙ c.loop-rest-test.false)) in
    rw (sym (part_last _ _ _ i.1.2 (report_end c.args.torn.now.sheet.now c.loop-rest.rest.walk over))) i.1.1
