-- `quick::may_mark` meets its contract: `any` asks at each place. Assumes nothing.
use Rattle.std.proofs.Common.{refl, sym, ◌∙◌, drop, length, arith, rules, tests}
use Rattle.std.proofs.lemmas.Iterator.{YieldsList-from_range}
use Rattle.std.proofs.lemmas.Iterator.Search.{any_from_yields_List}
use Rattle.origin.specs.Quick.{may_open, may_mark}
use Rattle.origin.proofs.Ruled.{somewhere_any}
use Rattle.origin.proofs.quick.may_mark.Goals as goal

pub returns : goal.returns
unfolding may_mark
returns c =
    let w = c.args.word.now in
    any_from_yields_List (λ i. may_open (drop i w)) _ _ c.any.result c.any.ensures.ran (YieldsList-from_range 0 (length w) (length w) refl (omega arith)) (λ x b q k. search (rules, tests)) ∙ sym (somewhere_any may_open w)
