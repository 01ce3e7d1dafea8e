-- `marks::contains_one` meets its contract: `any` asks at each place. Assumes nothing.
use Rattle.std.proofs.Common.{◌∙◌, refl, sym, Bor, Bool, ◌&&◌, List, ℕ, map, drop, length, arith, rules, tests}
use Rattle.std.proofs.lemmas.Iterator.{YieldsList-from_range}
use Rattle.std.proofs.lemmas.Iterator.Search.{any_from_yields_List}
use Rattle.origin.specs.Marks.{begins_one, contains_one}
use Rattle.origin.specs.Quick.{may_open}
use Rattle.origin.proofs.Marked.{lent_begins}
use Rattle.origin.proofs.Ruled.{somewhere_any, some_opened}
use Rattle.origin.proofs.marks.contains_one.Goals as goal

pub returns : goal.returns
unfolding contains_one
returns c =
    let w = c.args.word.now in
    let ts : List (List ℕ) = map (λ (t : Bor (List ℕ)). t.now) c.args.texts.now in
    let opened : List ℕ → Bool = λ s. may_open s && begins_one ts s in
    any_from_yields_List (λ i. opened (drop i w)) _ _ c.any.result c.any.ensures.ran (YieldsList-from_range 0 (length w) (length w) refl (omega arith)) (λ x b q k. search (rules, tests, lent_begins))
    ∙ sym (somewhere_any opened w) ∙ some_opened ts w c.requires
