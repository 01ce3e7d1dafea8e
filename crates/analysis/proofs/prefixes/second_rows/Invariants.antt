-- `analysis::prefixes::second_rows` meets its contract: what all rows add is what those to come add to what has been collected. Assumes nothing.
use Prim.Native.Nat.{ℕ, ◌-◌, ◌≤◌}
use mathlib.Core.Path.{◌≡◌}
use mathlib.Core.List.{List, [], ◌∷◌}
use lib.ListN.{take}
use Rattle.paths.specs.Visits.{prefix_visits}
use Rattle.analysis.proofs.Visited.{Counted}
use Rattle.paths.specs.Chains.{all_forms}
use Rattle.sheet.specs.Replies.{reply}
use Rattle.ranking.specs.Lists.{plus_all}
use Rattle.ranking.specs.declared.Reading.{Reading}
use Rattle.paths.specs.declared.Chain.{Chain}
use Rattle.paths.specs.Walk.{root_walk, over_forms}
use Rattle.analysis.specs.Places.{between}
use Rattle.analysis.proofs.prefixes.second_rows.Given as goal

-- what is done with what a row leaves
abbrev pub each : List ℕ → List ℕ → ℕ → ℕ → Chain → ℕ → ℕ → List ℕ → List Reading
each word sheet stem first chain surface second left = root_walk (reply sheet) surface chain (take stem word) (first ∷ second ∷ []) left

abbrev pub invariant-loop-k : goal.invariant-loop-k
invariant-loop-k l = (l.k ≤ all_forms)
    × (plus_all l.behind.at.now.asked.now.word.now l.initial.kept (over_forms (each l.behind.at.now.asked.now.word.now l.behind.at.now.asked.now.sheet.now.bytes.now l.behind.at.now.end l.first l.behind.at.now.chain l.behind.at.now.surface) (between l.behind.at.now.asked.now.word.now l.behind.start l.behind.at.now.end) 0 all_forms)
    ≡ plus_all l.behind.at.now.asked.now.word.now l.kept (over_forms (each l.behind.at.now.asked.now.word.now l.behind.at.now.asked.now.sheet.now.bytes.now l.behind.at.now.end l.first l.behind.at.now.chain l.behind.at.now.surface) (between l.behind.at.now.asked.now.word.now l.behind.start l.behind.at.now.end) l.k (all_forms - l.k)))
    × Counted (prefix_visits 0 (reply l.behind.at.now.asked.now.sheet.now.bytes.now)) (between l.behind.at.now.asked.now.word.now l.behind.start l.behind.at.now.end) l.k l.v
