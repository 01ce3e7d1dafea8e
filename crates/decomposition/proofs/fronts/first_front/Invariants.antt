-- `fronts::first_front` meets its contract: no row passed leaves a known word. Assumes nothing.
use mathlib.Core.Path.{◌≡◌}
use lib.ListN.{drop}
use Rattle.lookup.specs.Lexicons.{replies}
use Rattle.tables.specs.Rows.{prefix_forms}
use Rattle.decomposition.specs.Strips.{first_front}
use Rattle.decomposition.proofs.fronts.first_front.Given as goal

abbrev pub invariant-loop-k : goal.invariant-loop-k
invariant-loop-k l = first_front (replies l.sheet) l.word 0 prefix_forms ≡ first_front (replies l.sheet) l.word l.k (drop l.k prefix_forms)
