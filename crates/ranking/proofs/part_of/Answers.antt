-- `ranking::part_of` meets its contract, test by test. Assumes nothing.
use Prim.Native.Nat.{ℕ, ◌<◌, ◌≤◌}
use mathlib.Core.Path.{◌≡◌}
use mathlib.Core.Logic.{◌⊎◌, inl, inr}
use mathlib.Core.List.{List, []}
use lib.ListN.{length}
use borrow.Author.Tests.{le-leb, lt-leb}
use Rattle.ranking.specs.Parts.{part}
use Rattle.ranking.proofs.part_of.Goals as goal

no_place : (w : List ℕ) (from to : ℕ) → (from ≤ to × length w < to) ⊎ (to < from) → [] ≡ part w from to
unfolding part
no_place w from to (inl p) = simp (le-leb _ _ p.0, lt-leb _ _ p.1)
no_place w from to (inr h) = simp (lt-leb _ _ h)

pub returns-then-to-word : goal.returns-then-to-word
unfolding part
returns-then-to-word c = simp (le-leb _ _ c.if-from-to.true, le-leb _ _ c.if-to-word.true)

pub returns-else-from-to : goal.returns-else-from-to
returns-else-from-to c = no_place c.args.word.now c.args.from c.args.to c.else-from-to.either
