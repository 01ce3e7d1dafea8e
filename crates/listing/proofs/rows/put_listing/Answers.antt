-- `rows::put_listing` meets its contract: a list put at the front. Assumes nothing.
use Rattle.std.proofs.Common.{rules}
use Rattle.writing.proofs.Puts.{put_into}
use Rattle.listing.proofs.rows.put_listing.Goals as goal

pub returns : goal.returns
returns c = (put_into _ c.new-w.ensures c.put_list.ensures.0 c.at.ensures (search rules), c.put_list.ensures.1)
