-- `ranking::rows::get_reading` meets its contract, part by part. Assumes nothing.
use Rattle.ranking.proofs.Backs.{reading_parts}
use Rattle.ranking.proofs.rows.get_reading.Goals as goal

pub returns : goal.returns
returns c =
    reading_parts c.args.row.now c.two_at.ensures c.two_at-2.ensures c.two_at-3.ensures
    c.segment_at.ensures c.segment_at-2.ensures c.segment_at-3.ensures c.segment_at-4.ensures
