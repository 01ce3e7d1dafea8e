-- `tokenizer::walk::walk` meets its contract: what has been stored and counted, and what is to come, are all. Assumes nothing.
use Prim.Native.Nat.{◌-◌, ◌≤◌}
use mathlib.Core.Path.{◌≡◌}
use lib.ListN.{length}
use Rattle.tokenizer.proofs.Turns.{Going}
use Rattle.tokenizer.proofs.walk.walk.Given as goal

abbrev pub invariant-loop-at : goal.invariant-loop-at
invariant-loop-at l = (l.at ≤ length l.text) × (l.start ≤ l.at) × (l.count ≤ l.at) × (length l.list ≡ length l.initial.list) × Going l.text l.initial.list l.list l.at l.start l.held l.count

abbrev pub decreases-loop-at : goal.decreases-loop-at
decreases-loop-at l = length l.text - l.at
