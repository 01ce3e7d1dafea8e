-- `begins::end_of` meets its contract: what is said of a number is how its line stands. Assumes nothing.
use Rattle.std.proofs.Common.{arith}
use Rattle.lookup.proofs.lexicon.Lexicon.end_of.Goals as goal

pub halve-behind-requires-clause-callable : goal.halve-behind-requires-clause-callable
halve-behind-requires-clause-callable c = λ i a b _ _ _ _ _ _ _. omega (arith, b, c.requires.1)
