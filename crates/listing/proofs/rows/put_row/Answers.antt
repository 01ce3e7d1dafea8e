-- `rows::put_row` meets its contract: the reading, and the end; and how long they are together. Assumes nothing.
use native.Mathlib.Omega.{arith}
use Rattle.std.proofs.lemmas.Grind.{common_steps}
use Rattle.listing.specs.Texts.{row_text}
use Rattle.listing.proofs.Room.{row-size}
use Rattle.listing.proofs.rows.put_row.Goals as goal

pub returns : goal.returns
unfolding row_text
returns c =
    let r = c.put_reading.ensures in
    let f = r.0 in
    (grind (arith, common_steps), λ h. row-size c.args.word.now c.args.row (r.1 h))
