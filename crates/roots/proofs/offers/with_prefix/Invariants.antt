-- `offers::with_prefix` meets its contract: what all rows offer is what those to come offer to what has been kept. Assumes nothing.
use mathlib.Core.Path.{◌≡◌}
use lib.ListN.{drop}
use Rattle.tables.specs.Rows.{prefix_forms}
use Rattle.lookup.specs.Lexicons.{replies}
use Rattle.roots.specs.Lists.{root_limit}
use Rattle.roots.specs.Candidates.{under_forms}
use Rattle.roots.specs.Room.{held_all}
use Rattle.roots.proofs.offers.with_prefix.Given as goal

abbrev pub invariant-loop-k : goal.invariant-loop-k
invariant-loop-k l =
    let ask = replies l.asked.sheet.now in
    let w = l.asked.word.now in
    (held_all root_limit ask w l.initial.list.items (under_forms ask w 0 prefix_forms)
    ≡ held_all root_limit ask w l.list.items (under_forms ask w l.k (drop l.k prefix_forms)))
