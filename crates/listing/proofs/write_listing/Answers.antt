-- `listing::write_listing` meets its contract: the first run tells the length, the second writes. Assumes nothing.
use Rattle.std.proofs.Common.{arith}
use mathlib.Core.Path.{ap}
use Rattle.writing.proofs.Wholes.{written_whole, answer_as}
use Rattle.listing.specs.Texts.{listing_text}
use Rattle.listing.proofs.write_listing.Goals as goal

pub returns : goal.returns
returns c =
    let f = ap (listing_text c.args.word.now) c.as_slice-rows.ensures.value in
    (answer_as f (written_whole c.put_listing-size.ensures.0 c.if-out-size.false (omega arith) c.put_listing.ensures.0), λ h. (rw f at c.put_listing.ensures.1) h)
