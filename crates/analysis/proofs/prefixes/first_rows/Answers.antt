-- `analysis::prefixes::first_rows` meets its contract: what all rows add is what those to come add to what has been collected. Assumes nothing.
use native.Mathlib.Omega.{arith}
use mathlib.Core.Path.{refl, sym, ◌∙◌}
use lib.ListN.{take}
use Rattle.paths.specs.Visits.{prefix_visits}
use Rattle.analysis.proofs.Visited.{visits_turn, visits_pass, visits_end, first-few}
use Rattle.sheet.specs.Replies.{reply}
use Rattle.paths.specs.Chains.{all_forms}
use Rattle.analysis.proofs.Turns.{form_turn, form_pass, form-end}
use Rattle.analysis.proofs.prefixes.first_rows.Invariants.{each}
use Rattle.analysis.proofs.prefixes.first_rows.Goals as goal

pub loop-k-init : goal.loop-k-init
loop-k-init c = (omega arith, refl, omega arith)

-- the count stays small: it is at most that of all rows
pub overflow_add-v : goal.overflow_add-v
overflow_add-v c =
    let a = c.args in
    let e = visits_turn (prefix_visits 1 (reply a.at.now.asked.now.sheet.now.bytes.now)) (take a.at.now.end a.at.now.asked.now.word.now) c.loop-k.k c.loop-k.v _ c.loop-k-test.true c.loop-k.invariant.2 c.first_row-v.ensures.1 in
    omega (arith, e, first-few (reply a.at.now.asked.now.sheet.now.bytes.now) (take a.at.now.end a.at.now.asked.now.word.now))

pub loop-k-preserved : goal.loop-k-preserved
loop-k-preserved c =
    let a = c.args in (
      omega (arith, c.loop-k-test.true),
      c.loop-k.invariant.1 ∙ form_turn a.at.now.asked.now.word.now (each a.at.now.asked.now.word.now a.at.now.asked.now.sheet.now.bytes.now a.at.now.end a.at.now.chain a.at.now.surface) (take a.at.now.end a.at.now.asked.now.word.now) c.loop-k.k all_forms c.loop-k.kept _ c.loop-k-test.true c.first_row-v.ensures.0,
      visits_turn (prefix_visits 1 (reply a.at.now.asked.now.sheet.now.bytes.now)) (take a.at.now.end a.at.now.asked.now.word.now) c.loop-k.k c.loop-k.v _ c.loop-k-test.true c.loop-k.invariant.2 c.first_row-v.ensures.1,
    )

pub loop-k-preserved-then-not-begins : goal.loop-k-preserved-then-not-begins
loop-k-preserved-then-not-begins c =
    let a = c.args in (
      omega (arith, c.loop-k-test.true),
      c.loop-k.invariant.1 ∙ form_pass a.at.now.asked.now.word.now (each a.at.now.asked.now.word.now a.at.now.asked.now.sheet.now.bytes.now a.at.now.end a.at.now.chain a.at.now.surface) (take a.at.now.end a.at.now.asked.now.word.now) c.loop-k.k all_forms c.loop-k.kept c.loop-k-test.true (sym c.begins.ensures ∙ c.if-not-begins.true),
      visits_pass (prefix_visits 1 (reply a.at.now.asked.now.sheet.now.bytes.now)) (take a.at.now.end a.at.now.asked.now.word.now) c.loop-k.k c.loop-k.v c.loop-k-test.true c.loop-k.invariant.2 (sym c.begins.ensures ∙ c.if-not-begins.true),
    )

pub returns : goal.returns
returns c =
    let a = c.args in
    (sym (c.loop-k.invariant.1 ∙ form-end a.at.now.asked.now.word.now (each a.at.now.asked.now.word.now a.at.now.asked.now.sheet.now.bytes.now a.at.now.end a.at.now.chain a.at.now.surface) (take a.at.now.end a.at.now.asked.now.word.now) c.loop-k.k all_forms c.loop-k.kept c.loop-k-test.false), visits_end (prefix_visits 1 (reply a.at.now.asked.now.sheet.now.bytes.now)) (take a.at.now.end a.at.now.asked.now.word.now) c.loop-k.k c.loop-k.v c.loop-k-test.false c.loop-k.invariant.2)
