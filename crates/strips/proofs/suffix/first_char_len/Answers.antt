-- `strips::suffix::first_char_len` meets its contract: `position` finds the next byte that begins a character. Assumes nothing.
use Rattle.std.proofs.Common.{rules, tests, ◌≡◌, ◌∷◌}
use Rattle.std.proofs.lemmas.Iterator.{YieldsList-from_slice}
use Rattle.std.proofs.lemmas.Iterator.Search.{position_from_yields_List}
use lib.Dec.{eqb}
use Rattle.text.specs.Characters.{opens}
use Rattle.strips.proofs.Returns.{first_found}
use Rattle.strips.proofs.suffix.first_char_len.Goals as goal

pub returns : goal.returns
returns c =
    let rest = c.in-Some.rest.now in
    let found = position_from_yields_List (λ x. eqb (opens x) 1) _ _ c.position.result c.position.ensures.ran (YieldsList-from_slice rest c.iter.ensures.rest) (λ x b q k. search (rules, tests)) in
    let e : c.args.t.now ≡ c.in-Some.field-0-0.now ∷ rest = search rules in
    first_found c.args.t.now rest _ c.unwrap_or.result c.position.result e found c.unwrap_or.ensures
