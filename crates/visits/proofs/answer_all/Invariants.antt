-- `visits::answer_all`: of what was read so far the lines are told, and of the word that is not ended 193 bytes are kept.
use Rattle.std.proofs.Common.{◌≡◌, ℕ, List, [], take}
use Rattle.std.specs.Io.KnownBytes.{Appends, Consumes}
use Rattle.visits.specs.Printed.{lines_of, unended}
use Rattle.visits.proofs.answer_all.Given as goal

abbrev pub invariant-loop : goal.invariant-loop
invariant-loop g l =
    (read : List ℕ) × Consumes (g.R.Read.remaining l.initial.words) (g.R.Read.remaining l.words) read
    × Appends (g.W.Write.contents l.initial.told) (g.W.Write.contents l.told) (lines_of l.sheet.bytes.now [] read)
    × (l.word.items ≡ take 193 (unended [] read))
