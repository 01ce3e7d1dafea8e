-- `offers::Behind::with_suffix` meets its contract: what all rows offer is what those to come offer to what has been kept. Assumes
-- nothing.
use native.Mathlib.Omega.{arith}
use mathlib.Core.Path.{◌≡◌, sym, ap, ◌∙◌}
use mathlib.Core.List.{List}
use Prim.Native.Nat.{ℕ, ◌<◌, ◌≤◌}
use lib.ListN.{length, drop}
use Rattle.tables.specs.Rows.{suffixes}
use Rattle.tables.proofs.Facts.{suffix-count}
use Rattle.lookup.specs.Lexicons.{replies}
use Rattle.decomposition.specs.Strips.{open_rests}
use Rattle.decomposition.proofs.Rows.{row_at}
use Rattle.decomposition.proofs.Taken.{open_inside}
use Rattle.roots.specs.Candidates.{one_suffix}
use Rattle.roots.proofs.Offered.{under_turn, under_end}
use Rattle.roots.proofs.offers.Behind.with_suffix.Goals as goal
use Rattle.roots.proofs.offers.Behind.with_suffix.Goals.{In-loop-k, After-open_rests-rests}

inside : (c : In-loop-k) → c.loop-k.k < length suffixes
inside c = omega (arith, suffix-count, c.suffix_rows-rows.ensures.count, c.loop-k-test.true)

-- the remainders of this turn
asked : (c : After-open_rests-rests) →
    let b = c.args.self.now in
    c.open_rests-rests.result ≡ open_rests (replies b.asked.sheet.now) (drop b.front.from b.asked.word.now) c.as_bytes.result.now
asked c =
    let b = c.args.self.now in
    c.open_rests-rests.ensures ∙ ap (λ (p : List ℕ). open_rests (replies b.asked.sheet.now) p c.as_bytes.result.now) c.piece.ensures

pub under_row-requires : goal.under_row-requires
under_row-requires c =
    let b = c.args.self.now in
    rw (asked (goal.at.under_row-requires c).After-open_rests-rests) (open_inside (replies b.asked.sheet.now) (drop b.front.from b.asked.word.now) c.as_bytes.result.now)

pub loop-k-preserved : goal.loop-k-preserved
loop-k-preserved c =
    let b = c.args.self.now in
    let w = b.asked.word.now in
    let row = c.as_bytes.ensures.value ∙ row_at (λ t. t.now) c.suffix_rows-rows.result.now suffixes c.loop-k.k _ c.suffix_rows-rows.ensures.rows c.loop-k-test.true in
    c.loop-k.invariant
    ∙ under_turn 16 (replies b.asked.sheet.now) w b.front (drop b.front.from w) suffixes c.loop-k.k c.loop-k.list.items _ c.as_bytes.result.now c.open_rests-rests.result
    (inside (goal.at.loop-k-preserved c).In-loop-k) row (asked (goal.at.loop-k-preserved c).After-open_rests-rests) c.under_row.ensures

pub returns : goal.returns
unfolding one_suffix
returns c =
    let b = c.args.self.now in
    let w = b.asked.word.now in
    let n : length suffixes ≤ c.loop-k.k = omega (arith, suffix-count, c.suffix_rows-rows.ensures.count, c.loop-k-test.false) in
    sym (c.loop-k.invariant ∙ under_end 16 (replies b.asked.sheet.now) w b.front (drop b.front.from w) suffixes c.loop-k.k c.loop-k.list.items n)
