-- `put_front` meets its contract. Assumes nothing.
use Rattle.std.proofs.Common.{rules}
use Rattle.writing.proofs.Puts.{put_into}
use Rattle.writing.proofs.put_front.Goals as goal

pub returns : goal.returns
returns g c = put_into _ c.new-w.ensures c.put.ensures c.at.ensures (search rules)
