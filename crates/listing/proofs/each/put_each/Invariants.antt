-- `each::put_each` meets its contract: what is put so far and what is to come are all of it. Assumes nothing.
use Prim.Native.Nat.{ℕ}
use mathlib.Core.Path.{◌≡◌}
use mathlib.Core.List.{List, map}
use lib.ListN.{drop}
use Rattle.writing.specs.Writers.{with_text}
use Rattle.paths.specs.Recomposed.{in_row}
use Rattle.listing.specs.Each.{Puts}
use Rattle.listing.proofs.each.put_each.Given as goal

abbrev pub invariant-loop-x : goal.invariant-loop-x
invariant-loop-x g l = (text : _ → List ℕ) → Puts (goal.F-post g l.put) text → with_text l.w (in_row (map text (drop l.x-index l.xs))) ≡ with_text l.fn.w (in_row (map text l.xs))
