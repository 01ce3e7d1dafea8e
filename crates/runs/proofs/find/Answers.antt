-- `runs::find` meets its contract: what `position` finds in the part is the place. Assumes nothing.
use Rattle.std.proofs.Common.{◌-◌, take, drop, arith, rules, tests}
use Rattle.std.proofs.lemmas.Iterator.{YieldsList-from_slice}
use Rattle.std.proofs.lemmas.Iterator.Search.{position_from_yields_List}
use lib.Dec.{eqb}
use Rattle.runs.proofs.Spots.{index_part}
use Rattle.runs.proofs.find.Goals as goal

pub returns : goal.returns
returns c =
    let a = c.args in
    let part = take (a.to - a.from) (drop a.from a.s.now) in
    let found = position_from_yields_List (λ x. eqb x a.b) _ _ c.position.result c.position.ensures.ran (YieldsList-from_slice part c.iter.ensures.rest) (λ x b q k. search (rules, tests)) in
    index_part a.s.now a.from a.to a.b c.unwrap_or.result c.position.result (omega arith) (omega arith) found c.unwrap_or.ensures
