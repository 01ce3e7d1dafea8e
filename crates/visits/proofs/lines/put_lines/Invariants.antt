-- `visits::lines::put_lines` meets its contract: the lines put so far and those to come are all of them, and so is the word that is kept.
-- Assumes nothing.
use Rattle.visits.proofs.Stretches.{Turned}
use Rattle.visits.proofs.lines.put_lines.Given as goal

abbrev pub invariant-loop-b : goal.invariant-loop-b
invariant-loop-b l = Turned l.sheet.bytes.now l.text l.initial.word.items l.initial.w l.b-index l.word.items l.w
