-- `strips::suffix::suffix_rests` meets its contract: the tests stand in the definition's order. Assumes nothing.
use mathlib.Core.Path.{sym, ◌∙◌}
use native.Mathlib.Omega.{arith}
use Rattle.strips.proofs.Remainders.{sheds_longer}
use Rattle.strips.proofs.suffix.suffix_rests.Goals as goal

pub overflow_sub-plain : goal.overflow_sub-plain
overflow_sub-plain c = omega (arith, sheds_longer c.args.piece.now c.args.suffix.now (sym c.sheds.ensures ∙ c.if-not-sheds.false))
