-- `offers::Behind::under_row` meets its contract: the plain remainder, then the shared one. Assumes nothing.
use mathlib.Core.List.{[], ◌∷◌}
use lib.ListN.{drop}
use Rattle.lookup.specs.Lexicons.{replies}
use Rattle.decomposition.specs.Strips.{label_row, least_root}
use Rattle.roots.proofs.Offered.{rests_two}
use Rattle.roots.proofs.offers.Behind.under_row.Goals as goal

pub returns : goal.returns
returns c =
    let b = c.args.self.now in
    let w = b.asked.word.now in
    rests_two 16 (replies b.asked.sheet.now) w _ (least_root b.front.prefix) b.front (label_row c.args.k ∷ []) (drop b.front.from w) c.args.rests _ _
    c.offer_rest.ensures c.offer_rest-2.ensures
