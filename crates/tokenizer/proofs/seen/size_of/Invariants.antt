-- `tokenizer::seen::size_of` meets its contract: what is owed once a byte is read fixes how many bytes there are. Assumes nothing.
use Rattle.std.proofs.Common.{◌≡◌, drop}
use Rattle.text.specs.Owes.{owed_of}
use Rattle.tokenizer.specs.Scanned.{width}
use Rattle.tokenizer.proofs.Looks.{size_past}
use Rattle.tokenizer.proofs.seen.size_of.Given as goal

abbrev pub invariant-loop-k : goal.invariant-loop-k
invariant-loop-k l = width l.s ≡ size_past l.k (owed_of l.state) (drop l.k l.s)
