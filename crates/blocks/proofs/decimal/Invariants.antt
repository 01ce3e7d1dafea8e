-- `blocks::decimal` meets its contract: the number stays small, and what is left is the end of the text. Assumes nothing.
use Rattle.std.proofs.Common.{◌≤◌, length}
use Rattle.blocks.proofs.Cut.{Left}
use Rattle.blocks.proofs.decimal.Given as goal

abbrev pub invariant-loop-rest : goal.invariant-loop-rest
invariant-loop-rest l = (l.value ≤ 2000000) × Left l.s l.rest

abbrev pub decreases-loop-rest : goal.decreases-loop-rest
decreases-loop-rest l = length l.rest
