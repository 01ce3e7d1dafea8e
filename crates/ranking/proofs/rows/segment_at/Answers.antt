-- `ranking::rows::segment_at` meets its contract: the three bytes are those of the segment. Assumes nothing.
use Prim.Native.Nat.{◌+◌}
use mathlib.Core.Path.{ap}
use lib.ListN.{get_or}
use lib.Dec.{ltb}
use Rattle.ranking.specs.declared.AffixKind.{AffixKind}
use Rattle.ranking.proofs.rows.segment_at.Goals as goal

pub returns : goal.returns
returns c =
    let a = c.args in
    ap (λ (k : AffixKind). record { label = get_or a.row.now a.i 0; kind = k; shared = ltb 0 (get_or a.row.now (a.i + 2) 0) }) c.from.ensures
