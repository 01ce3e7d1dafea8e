-- `tables::origins::lookup_origin` meets its contract: the words ascend, so a binary search settles each row. Assumes nothing.
use Rattle.std.proofs.Common.{◌≡◌, Bor, List, ℕ, MatchResult, slice_index_or, Some, None, rules}
use Rattle.std.proofs.lemmas.Fn.{always_returns_same}
use Rattle.tables.specs.declared.origins.Origin.{Origin}
use Rattle.tables.specs.Origins.{origin_of}
use Rattle.tables.proofs.Facts.{origin_ascending}
use Rattle.tables.proofs.Listed.{stand, searched}
use Rattle.tables.proofs.origins.lookup_origin.Goals as goal
use Rattle.tables.proofs.origins.lookup_origin.Goals.{After-binary_search_by}

abbrev Row : Type 0
Row = Bor (List ℕ) × Origin

-- what the search answers
found : (c : After-binary_search_by) → MatchResult c.binary_search_by.result
    (λ k. (d : Row) → Some (slice_index_or c.origin_rows-rows.result.now k d).1 ≡ origin_of c.args.word.now) (λ _. None ≡ origin_of c.args.word.now)
unfolding origin_of
found c =
    let rows = c.origin_rows-rows in
    let find = c.binary_search_by in
    searched (λ (r : Row). r.0.now) (λ (r : Row). r.1) c.args.word.now rows.result.now _ _ rows.ensures.words rows.ensures.origins origin_ascending find.result find.ensures.bound
    (find.ensures.position (λ r. stand r.0.now c.args.word.now) (always_returns_same _ _ _ (λ a r g called. search rules)))

pub returns-in-Ok : goal.returns-in-Ok
returns-in-Ok c = (rw c.in-Ok.is at (found (goal.at.returns-in-Ok c).After-binary_search_by)) _

pub returns-in-Err : goal.returns-in-Err
returns-in-Err c = rw c.in-Err.is at (found (goal.at.returns-in-Err c).After-binary_search_by)
