-- `tokenizer::walk::walk` meets its contract: what has been stored and counted, and what is to come, are all. Assumes nothing.
use Rattle.std.proofs.Common.{refl, ◌∙◌, arith, rules, length-drop}
use Rattle.std.proofs.lemmas.List.{take_rest}
use Rattle.tokenizer.proofs.Turns.{going_start, going_parts, going_on, going_broken, going_end}
use Rattle.tokenizer.proofs.walk.walk.Goals as goal

pub loop-at-init : goal.loop-at-init
loop-at-init c = (omega arith, omega arith, omega arith, search rules, going_start _ _)

pub returns-in_err-seen-clause-value : goal.returns-in_err-seen-clause-value
returns-in_err-seen-clause-value c =
    c.from_residual.ensures ∙ (going_broken c.loop-at.invariant.4 c.loop-at-test.true (rw take_rest at c.in_err-seen.ensures.value)).0

pub returns-in_err-seen-clause-left : goal.returns-in_err-seen-clause-left
returns-in_err-seen-clause-left c = (going_broken c.loop-at.invariant.4 c.loop-at-test.true (rw take_rest at c.in_err-seen.ensures.value)).1

pub loop-at-preserved-then-seen : goal.loop-at-preserved-then-seen
loop-at-preserved-then-seen c =
    let e = rw take_rest at c.in_ok-seen.ensures.value in
    let b = simp (take_rest, length-drop) at c.in_ok-seen.ensures.bound in
    (omega arith, omega arith, omega (arith, c.end_run-count.ensures.few), search rules, going_parts c.loop-at.invariant.4 _ e c.if-seen.true c.end_run-count.ensures)

pub loop-at-preserved : goal.loop-at-preserved
loop-at-preserved c =
    let e = rw take_rest at c.in_ok-seen.ensures.value in
    let b = simp (take_rest, length-drop) at c.in_ok-seen.ensures.bound in
    (omega arith, omega arith, omega arith, search rules, going_on c.loop-at.invariant.4 _ e _ c.if-seen.false refl)

pub returns-clause-value : goal.returns-clause-value
returns-clause-value c = (going_end c.loop-at.invariant.4 c.loop-at-test.false c.end_run.ensures).0

pub returns-clause-left : goal.returns-clause-left
returns-clause-left c = (going_end c.loop-at.invariant.4 c.loop-at-test.false c.end_run.ensures).1
