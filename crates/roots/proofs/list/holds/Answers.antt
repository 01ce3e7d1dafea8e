-- `list::holds` meets its contract: `any` finds a row with the same root and labels. Assumes nothing.
use Rattle.std.proofs.Common.{rules, tests, ◌∙◌, sym}
use Rattle.std.specs.Ordering.{is_eq}
use Rattle.std.proofs.lemmas.Iterator.{YieldsList-from_slice}
use Rattle.std.proofs.lemmas.Iterator.Search.{any_from_yields_List}
use Rattle.roots.specs.Rank.{key_order}
use Rattle.roots.proofs.Kept.{holds_any}
use Rattle.roots.proofs.list.holds.Goals as goal

pub returns : goal.returns
returns c =
    let a = c.args in
    any_from_yields_List (λ x. is_eq (key_order a.word.now a.p x.parts)) _ _ c.any.result c.any.ensures.ran (YieldsList-from_slice a.rows.now c.iter.ensures.rest) (λ x b q k. search (rules, tests))
    ∙ sym (holds_any a.word.now a.p a.rows.now)
