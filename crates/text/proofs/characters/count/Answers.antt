-- `text::characters::count` meets its contract: the sum over all bytes is the number of characters. Assumes nothing.
use Rattle.std.proofs.Common.{sym, ◌∙◌, arith, rules, tests}
use Rattle.std.proofs.lemmas.Iterator.{YieldsList-from_slice, YieldsList-from_map}
use Rattle.std.proofs.lemmas.Iterator.Consumers.{sum_by_from_yields_List, fits_by_from_yields_list}
use Rattle.text.specs.Characters.{opens}
use Rattle.text.proofs.Scan.{chars_sum, chars_most}
use Rattle.text.proofs.characters.count.Goals as goal

pub sum-requires-clause-fits : goal.sum-requires-clause-fits
sum-requires-clause-fits c =
    let s = c.args.s.now in
    fits_by_from_yields_list opens s c.map.result _ (YieldsList-from_map _ opens (YieldsList-from_slice s cc) c.map.ensures.closure (λ x r q k. search (rules, tests))) (omega (arith, chars_sum s, chars_most s))

pub returns : goal.returns
returns c =
    let s = c.args.s.now in
    sum_by_from_yields_List opens s c.map.result _ c.sum.ensures.ran (YieldsList-from_map _ opens (YieldsList-from_slice s cc) c.map.ensures.closure (λ x r q k. search (rules, tests))) ∙ sym (chars_sum s)
