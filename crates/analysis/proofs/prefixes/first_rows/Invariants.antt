-- `analysis::prefixes::first_rows` meets its contract: what all rows add is what those to come add to what has been collected. Assumes nothing.
use Prim.Native.Nat.{ℕ, ◌-◌, ◌≤◌}
use mathlib.Core.Path.{◌≡◌}
use mathlib.Core.List.{List}
use lib.ListN.{take}
use Rattle.paths.specs.Visits.{prefix_visits}
use Rattle.analysis.proofs.Visited.{Counted}
use Rattle.sheet.specs.Replies.{reply}
use Rattle.ranking.specs.Lists.{plus_all}
use Rattle.ranking.specs.declared.Reading.{Reading}
use Rattle.paths.specs.declared.Chain.{Chain}
use Rattle.paths.specs.Walk.{second_walk, over_forms}
use Rattle.paths.specs.Chains.{all_forms}
use Rattle.analysis.proofs.prefixes.first_rows.Given as goal

-- what is done with what a row leaves
abbrev pub each : List ℕ → List ℕ → ℕ → Chain → ℕ → ℕ → List ℕ → List Reading
each word sheet stem chain surface = second_walk (reply sheet) surface chain (take stem word)

abbrev pub invariant-loop-k : goal.invariant-loop-k
invariant-loop-k l = (l.k ≤ all_forms)
    × (plus_all l.at.asked.now.word.now l.initial.kept (over_forms (each l.at.asked.now.word.now l.at.asked.now.sheet.now.bytes.now l.at.end l.at.chain l.at.surface) (take l.at.end l.at.asked.now.word.now) 0 all_forms)
    ≡ plus_all l.at.asked.now.word.now l.kept (over_forms (each l.at.asked.now.word.now l.at.asked.now.sheet.now.bytes.now l.at.end l.at.chain l.at.surface) (take l.at.end l.at.asked.now.word.now) l.k (all_forms - l.k)))
    × Counted (prefix_visits 1 (reply l.at.asked.now.sheet.now.bytes.now)) (take l.at.end l.at.asked.now.word.now) l.k l.v
