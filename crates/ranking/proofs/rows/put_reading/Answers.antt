-- `ranking::rows::put_reading` meets its contract: the bytes are those of the row. Assumes nothing.
use Prim.Native.Nat.{ℕ}
use native.Mathlib.Omega.{arith}
use mathlib.Core.Path.{ap, ◌∙◌}
use mathlib.Core.List.{List, ◌++◌}
use lib.ListN.{drop, get_or}
use Rattle.ranking.specs.Stored.{no_segment, reading_width}
use Rattle.ranking.proofs.Backs.{segment-bytes, reading-bytes}
use Rattle.ranking.proofs.rows.put_reading.Goals as goal

pub returns : goal.returns
returns c =
    let s = c.args in
    let t = s.r.segments in
    ap (λ (l : List ℕ). l ++ drop reading_width s.out.now)
    (c.copy_from_slice.ensures.after ∙ reading-bytes s.r (omega arith, omega arith, omega arith) c.to_le_bytes-stem.ensures c.to_le_bytes-root.ensures c.to_le_bytes-score.ensures
    (segment-bytes (get_or t 0 no_segment) c.from.ensures c.from-2.ensures) (segment-bytes (get_or t 1 no_segment) c.from-3.ensures c.from-4.ensures)
    (segment-bytes (get_or t 2 no_segment) c.from-5.ensures c.from-6.ensures) (segment-bytes (get_or t 3 no_segment) c.from-7.ensures c.from-8.ensures))
