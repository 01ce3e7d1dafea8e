-- `each::put_parted` meets its contract: what is put so far and what is to come are all of it. Assumes nothing.
use Prim.Native.Nat.{ℕ}
use mathlib.Core.Path.{◌≡◌}
use mathlib.Core.List.{List, map}
use lib.ListN.{drop}
use Rattle.writing.specs.Writers.{with_text}
use Rattle.writing.specs.Refused.{parted, parted_from}
use Rattle.listing.specs.Each.{Puts}
use Rattle.listing.proofs.each.put_parted.Given as goal

abbrev pub invariant-loop-i : goal.invariant-loop-i
invariant-loop-i g l = (text : _ → List ℕ) → Puts (goal.F-post g l.put) text → with_text l.w (parted_from l.i (map text (drop l.i l.xs))) ≡ with_text l.fn.w (parted (map text l.xs))
