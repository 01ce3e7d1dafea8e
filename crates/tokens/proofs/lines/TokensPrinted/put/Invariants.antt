-- `tokens::lines::Tokens` meets its contract: the lines put so far and those to come are all of them. Assumes nothing.
use Rattle.std.proofs.Common.{◌≡◌}
use Rattle.writing.specs.Writers.{with_text}
use Rattle.tokens.specs.Lines.{lines_of}
use Rattle.tokens.proofs.lines.TokensPrinted.put.Given as goal

abbrev pub invariant-loop-span : goal.invariant-loop-span
invariant-loop-span l = (l.span-iterator.size ≡ 2) × (with_text l.w (lines_of l.span-iterator.rest.now) ≡ with_text l.initial.w (lines_of l.self.list.now))
