-- `offers::Behind::with_suffix` meets its contract: what all rows offer is what those to come offer to what has been kept. Assumes
-- nothing.
use mathlib.Core.Path.{◌≡◌}
use lib.ListN.{drop}
use Rattle.tables.specs.Rows.{suffixes}
use Rattle.lookup.specs.Lexicons.{replies}
use Rattle.roots.specs.Lists.{root_limit}
use Rattle.roots.specs.Candidates.{under_rows}
use Rattle.roots.specs.Room.{held_all}
use Rattle.roots.proofs.offers.Behind.with_suffix.Given as goal

abbrev pub invariant-loop-k : goal.invariant-loop-k
invariant-loop-k l =
    let ask = replies l.self.asked.sheet.now in
    let w = l.self.asked.word.now in
    let f = l.self.front in
    (held_all root_limit ask w l.initial.list.items (under_rows ask f (drop f.from w) 0 suffixes)
    ≡ held_all root_limit ask w l.list.items (under_rows ask f (drop f.from w) l.k (drop l.k suffixes)))
