-- `stored::put_rows` meets its contract: the rows stored so far stand at the front, one after the other. Assumes nothing.
use Prim.Native.Nat.{◌*◌}
use mathlib.Core.Path.{◌≡◌}
use mathlib.Core.List.{◌++◌}
use lib.ListN.{length, take, drop}
use Rattle.exports.specs.Rows.{each}
use Rattle.exports.proofs.stored.put_rows.Given as goal

abbrev pub invariant-loop-i : goal.invariant-loop-i
invariant-loop-i g l = (length l.out ≡ length l.initial.out) × (l.out ≡ each g.T.Row.bytes (take l.i l.rows) ++ drop (g.T.Row.WIDTH * l.i) l.initial.out)
