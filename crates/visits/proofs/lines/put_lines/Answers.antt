-- `visits::lines::put_lines` meets its contract, by what each byte does. Assumes nothing.
use Rattle.std.proofs.Common.{ℕ, List, arith, ap, ◌∙◌}
use Rattle.writing.specs.Writers.{with_text}
use Rattle.visits.specs.Printed.{word_line}
use Rattle.visits.proofs.Stretches.{turn_ended, turn_longer, turn_full, turn_end}
use Rattle.visits.proofs.lines.put_lines.Goals as goal
use Rattle.visits.proofs.lines.put_lines.Goals.{then-b-eq10, else-b-eq10+then-not-is_full, else-b-eq10+else-not-is_full}

pub loop-b-preserved : goal.loop-b-preserved
loop-b-preserved c =
    let t = c.loop-b.invariant in
    elim c.if-b-eq10.branch [
      | then-b-eq10 w ↦ rw (w.w-is, w.word-is) (turn_ended _ _ _ _ _ _ _ t c.loop-b-test.true w.if-b-eq10.true _ (w.put_word.ensures ∙ ap (λ (l : List ℕ). with_text c.loop-b.w (word_line c.args.sheet.now.bytes.now l)) w.as_slice.ensures.value) _ w.clear.ensures)
      | else-b-eq10+then-not-is_full w ↦ rw (w.w-is, w.word-is) (turn_longer _ _ _ _ _ _ _ t c.loop-b-test.true w.if-b-eq10.false (grind arith) _ w.push.ensures.items)
      | else-b-eq10+else-not-is_full w ↦ rw (w.w-is, w.word-is) (turn_full _ _ _ _ _ _ _ t c.loop-b-test.true w.if-b-eq10.false (grind arith))
    ]

pub returns : goal.returns
returns c = turn_end _ _ _ _ _ _ _ c.loop-b.invariant c.loop-b-test.false
