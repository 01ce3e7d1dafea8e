-- `rows::put_reading` meets its contract, text by text; and how long they are together. Assumes nothing.
use native.Mathlib.Omega.{arith}
use mathlib.Core.Path.{◌≡◌}
use lib.ListN.{length}
use Rattle.std.proofs.lemmas.Grind.{common_steps}
use Rattle.listing.specs.Texts.{reading_text}
use Rattle.listing.proofs.Room.{reading_size}
use Rattle.listing.proofs.rows.put_reading.Goals as goal

pub returns : goal.returns
unfolding reading_text
returns c =
    let r = c.args.row in
    let g = c.well_formed.1.1.0.1.1 in
    let p : length r.prefixes ≡ 2 = g.1.1.1.0.1.0.1 in
    let q : length r.segments ≡ 4 = g.1.1.1.1.0.1.0.1 in
    (grind (arith, common_steps), λ h. reading_size c.args.word.now r h p q (omega arith))
