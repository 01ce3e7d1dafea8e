-- `suffixes::strip_rows` meets its contract: what all rows leave is what those to come leave of the stage. Assumes nothing.
use native.Mathlib.Omega.{arith}
use mathlib.Core.Path.{◌≡◌, sym, ap, ◌∙◌}
use mathlib.Core.List.{[]}
use Prim.Native.Nat.{◌<◌, ◌≤◌}
use lib.ListN.{length, get_or}
use Rattle.lookup.specs.Lexicons.{replies}
use Rattle.tables.specs.Rows.{suffixes}
use Rattle.tables.proofs.Facts.{suffix-count}
use Rattle.decomposition.specs.Places.{stripped_of}
use Rattle.decomposition.proofs.Rows.{row_at}
use Rattle.decomposition.proofs.Stages.{rows_turn, rows_end, ended}
use Rattle.decomposition.proofs.suffixes.strip_rows.Goals as goal
use Rattle.decomposition.proofs.suffixes.strip_rows.Goals.{In-loop-k, After-as_bytes}

inside : (c : In-loop-k) → c.loop-k.k < length suffixes
inside c = omega (arith, suffix-count, c.suffix_rows-rows.ensures.count, c.loop-k-test.true)

row : (c : After-as_bytes) → c.as_bytes.result.now ≡ get_or suffixes c.loop-k.k []
row c = c.as_bytes.ensures.value ∙ row_at (λ t. t.now) c.suffix_rows-rows.result.now suffixes c.loop-k.k _ c.suffix_rows-rows.ensures.rows c.loop-k-test.true

pub loop-k-preserved : goal.loop-k-preserved
loop-k-preserved c =
    let a = c.args in
    (c.strip_row.ensures.1, c.loop-k.invariant.1 ∙ rows_turn (replies a.sheet.now) a.least suffixes c.loop-k.k _ _ _ (inside (goal.at.loop-k-preserved c).In-loop-k) (row (goal.at.loop-k-preserved c).After-as_bytes) c.strip_row.ensures.0)

pub returns : goal.returns
returns c =
    let l = c.loop-k in
    let a = c.args in
    let n : length suffixes ≤ l.k = omega (arith, suffix-count, c.suffix_rows-rows.ensures.count, c.loop-k-test.false) in
    let m : l.k ≤ 24 = omega (arith, c.suffix_rows-rows.ensures.count) in (
      ended a.piece.now l.s l.k l.invariant.0
          ∙ ap stripped_of (sym (l.invariant.1 ∙ rows_end (replies a.sheet.now) a.least suffixes l.k _ n)),
      l.invariant.0.inside,
      omega (arith, l.invariant.0.few, m),
    )
