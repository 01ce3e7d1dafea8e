-- `tokenizer::seen::size_of` meets its contract: what is owed once a byte is read fixes how many bytes there are. Assumes nothing.
use Rattle.std.proofs.Common.{sym, ◌∙◌}
use Rattle.tokenizer.proofs.Looks.{size_some}
use Rattle.tokenizer.proofs.seen.size_of.Goals as goal

pub returns-then-is_whole-clause-value : goal.returns-then-is_whole-clause-value
returns-then-is_whole-clause-value c =
    size_some _ _ _ c.loop-k.invariant _ c.loop-k-test.true c.next-state.ensures (sym c.is_whole.ensures ∙ c.if-is_whole.true)
