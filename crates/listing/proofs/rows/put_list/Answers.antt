-- `rows::put_list` meets its contract: the first line, and then the rows; and how long they are together. Assumes nothing.
use native.Mathlib.Omega.{arith}
use mathlib.Core.Path.{refl}
use Rattle.std.proofs.lemmas.Grind.{common_steps}
use Rattle.listing.specs.Texts.{listing_text}
use Rattle.listing.proofs.Room.{listing-size}
use Rattle.listing.proofs.rows.put_list.Goals as goal

pub returns : goal.returns
unfolding listing_text
returns c =
    let r = c.put_rows.ensures in
    let f = r.0 in
    (grind (arith, common_steps), λ h. listing-size c.args.word.now c.args.rows.now _ c.requires refl (r.1 h))
