-- `list::place` meets its contract: `position` finds the first row that the candidate is ahead of. Assumes nothing.
use Rattle.std.proofs.Common.{rules, tests}
use Rattle.std.proofs.lemmas.Iterator.{YieldsList-from_slice}
use Rattle.std.proofs.lemmas.Iterator.Search.{position_from_yields_List}
use Rattle.roots.specs.Rank.{ahead_of}
use Rattle.ranking.proofs.Puts.{place_found}
use Rattle.roots.proofs.list.place.Goals as goal

pub returns : goal.returns
returns c =
    let a = c.args in
    let found = position_from_yields_List (ahead_of a.word.now a.r) _ _ c.position.result c.position.ensures.ran (YieldsList-from_slice a.rows.now c.iter.ensures.rest) (λ x b q k. search (rules, tests)) in
    place_found (ahead_of a.word.now a.r) a.rows.now c.unwrap_or.result c.position.result found c.unwrap_or.ensures
