-- `suffixes::visit` and `below`, which call each other: twice the strips left falls, and one more for a piece, which calls its rows.
-- The loop: what the rows passed add to the list, and what they count.
use Rattle.std.proofs.Common.{◌-◌, ◌≡◌, ◌+◌, ◌*◌, ◌≤◌, take}
use Rattle.sheet.specs.Replies.{reply}
use Rattle.ranking.specs.Lists.{plus_all}
use Rattle.paths.specs.Walk.{rows_walk, piece_walk}
use Rattle.paths.specs.Weighed.{total_rows, row_weighed, weighed}
use Rattle.analysis.proofs.suffixes.+below_visit.Given as goal

abbrev pub decreases-below : goal.decreases-below
decreases-below l = 2 * (4 - l.at.now.chain.count)

abbrev pub decreases-visit : goal.decreases-visit
decreases-visit l = 2 * (4 - l.at.now.chain.count) + 1

abbrev pub invariant-visit-loop-k : goal.invariant-visit-loop-k
invariant-visit-loop-k l =
    (l.k ≤ l.at.rows)
    × (plus_all l.at.asked.now.word.now l.initial.kept (rows_walk (piece_walk (3 - l.at.chain.count) (reply l.at.asked.now.sheet.now.bytes.now) l.at.surface) (reply l.at.asked.now.sheet.now.bytes.now) l.at.chain (take l.at.end l.at.asked.now.word.now) 0 l.at.rows)
    ≡ plus_all l.at.asked.now.word.now l.kept (rows_walk (piece_walk (3 - l.at.chain.count) (reply l.at.asked.now.sheet.now.bytes.now) l.at.surface) (reply l.at.asked.now.sheet.now.bytes.now) l.at.chain (take l.at.end l.at.asked.now.word.now) l.k (l.at.rows - l.k)))
    × (weighed (4 - l.at.chain.count) (reply l.at.asked.now.sheet.now.bytes.now) l.at.rows l.at.times (take l.at.end l.at.asked.now.word.now)
    ≡ l.v + total_rows (row_weighed (weighed (3 - l.at.chain.count) (reply l.at.asked.now.sheet.now.bytes.now)) l.at.times (take l.at.end l.at.asked.now.word.now)) l.k (l.at.rows - l.k))
