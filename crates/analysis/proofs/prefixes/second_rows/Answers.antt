-- `analysis::prefixes::second_rows` meets its contract: what all rows add is what those to come add to what has been collected. Assumes nothing.
use native.Mathlib.Omega.{arith}
use mathlib.Core.Path.{refl, sym, ◌∙◌}
use Rattle.paths.specs.Visits.{prefix_visits}
use Rattle.analysis.proofs.Visited.{visits_turn, visits_pass, visits_end, second_few}
use Rattle.paths.specs.Chains.{all_forms}
use Rattle.sheet.specs.Replies.{reply}
use Rattle.analysis.specs.Places.{between}
use Rattle.analysis.proofs.Turns.{form_turn, form_pass, form-end}
use Rattle.analysis.proofs.prefixes.second_rows.Invariants.{each}
use Rattle.analysis.proofs.prefixes.second_rows.Goals as goal

pub loop-k-init : goal.loop-k-init
loop-k-init c = (omega arith, refl, omega arith)

-- the count stays small: it is at most that of all rows
pub overflow_add-v : goal.overflow_add-v
overflow_add-v c =
    let a = c.args in
    let e = visits_turn (prefix_visits 0 (reply a.behind.now.at.now.asked.now.sheet.now.bytes.now)) (between a.behind.now.at.now.asked.now.word.now a.behind.now.start a.behind.now.at.now.end) c.loop-k.k c.loop-k.v _ c.loop-k-test.true c.loop-k.invariant.2 c.second_row-v.ensures.1 in
    omega (arith, e, second_few (reply a.behind.now.at.now.asked.now.sheet.now.bytes.now) (between a.behind.now.at.now.asked.now.word.now a.behind.now.start a.behind.now.at.now.end))

pub loop-k-preserved : goal.loop-k-preserved
loop-k-preserved c =
    let a = c.args in (
      omega (arith, c.loop-k-test.true),
      c.loop-k.invariant.1 ∙ form_turn a.behind.now.at.now.asked.now.word.now (each a.behind.now.at.now.asked.now.word.now a.behind.now.at.now.asked.now.sheet.now.bytes.now a.behind.now.at.now.end a.first a.behind.now.at.now.chain a.behind.now.at.now.surface) (between a.behind.now.at.now.asked.now.word.now a.behind.now.start a.behind.now.at.now.end) c.loop-k.k all_forms c.loop-k.kept _ c.loop-k-test.true c.second_row-v.ensures.0,
      visits_turn (prefix_visits 0 (reply a.behind.now.at.now.asked.now.sheet.now.bytes.now)) (between a.behind.now.at.now.asked.now.word.now a.behind.now.start a.behind.now.at.now.end) c.loop-k.k c.loop-k.v _ c.loop-k-test.true c.loop-k.invariant.2 c.second_row-v.ensures.1,
    )

pub loop-k-preserved-then-not-begins : goal.loop-k-preserved-then-not-begins
loop-k-preserved-then-not-begins c =
    let a = c.args in (
      omega (arith, c.loop-k-test.true),
      c.loop-k.invariant.1 ∙ form_pass a.behind.now.at.now.asked.now.word.now (each a.behind.now.at.now.asked.now.word.now a.behind.now.at.now.asked.now.sheet.now.bytes.now a.behind.now.at.now.end a.first a.behind.now.at.now.chain a.behind.now.at.now.surface) (between a.behind.now.at.now.asked.now.word.now a.behind.now.start a.behind.now.at.now.end) c.loop-k.k all_forms c.loop-k.kept c.loop-k-test.true (sym c.begins.ensures ∙ c.if-not-begins.true),
      visits_pass (prefix_visits 0 (reply a.behind.now.at.now.asked.now.sheet.now.bytes.now)) (between a.behind.now.at.now.asked.now.word.now a.behind.now.start a.behind.now.at.now.end) c.loop-k.k c.loop-k.v c.loop-k-test.true c.loop-k.invariant.2 (sym c.begins.ensures ∙ c.if-not-begins.true),
    )

pub returns : goal.returns
returns c =
    let a = c.args in
    (sym (c.loop-k.invariant.1 ∙ form-end a.behind.now.at.now.asked.now.word.now (each a.behind.now.at.now.asked.now.word.now a.behind.now.at.now.asked.now.sheet.now.bytes.now a.behind.now.at.now.end a.first a.behind.now.at.now.chain a.behind.now.at.now.surface) (between a.behind.now.at.now.asked.now.word.now a.behind.now.start a.behind.now.at.now.end) c.loop-k.k all_forms c.loop-k.kept c.loop-k-test.false), visits_end (prefix_visits 0 (reply a.behind.now.at.now.asked.now.sheet.now.bytes.now)) (between a.behind.now.at.now.asked.now.word.now a.behind.now.start a.behind.now.at.now.end) c.loop-k.k c.loop-k.v c.loop-k-test.false c.loop-k.invariant.2)
