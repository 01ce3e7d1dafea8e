-- How many suffix labels parts have: no more than SUFFIXES has rows. Cited for the room that they need and for their score. Assumes
-- nothing.
use mathlib.Core.List.{List, [], ◌∷◌}
use Prim.Native.Nat.{ℕ, suc, ◌+◌, ◌≤◌}
use native.Mathlib.Omega.{arith}
use lib.ListN.{length, drop, length-append}
use Rattle.tables.specs.Rows.{prefix_forms, suffixes}
use Rattle.tables.proofs.Facts.{suffix-count}
use Rattle.sheet.specs.Replies.{Ask}
use Rattle.decomposition.specs.Strips.{Stage, left_of, first_taken, taken, strip_row, strip_rows, least_root, first_front}
use Rattle.decomposition.specs.Parts.{whole_stage, behind_front, decomposed_of}

one_more : (k : ℕ) (rs : List (List ℕ)) (s : Stage) → length (taken k rs s).labels ≤ length s.labels + 1
one_more k [] s = omega arith
one_more k (r ∷ rs) s = simp length-append (omega arith)

pub rows_few : (ask : Ask) (least k : ℕ) (rows : List (List ℕ)) (s : Stage) → length (strip_rows ask least k rows s).labels ≤ length s.labels + length rows
unfolding strip_row
rows_few ask least k [] s = omega arith
rows_few ask least k (suffix ∷ rows) s =
    let t = strip_row ask least k suffix s in
    let h = rows_few ask least (suc k) rows t in
    let m = one_more k (first_taken ask least (left_of ask s.piece suffix)) s in
    omega arith

module _ (ask : Ask) (w : List ℕ) where
  pub few-suffixes : (decomposed_of ask w).suffix_count ≤ 24
  unfolding decomposed_of behind_front
  few-suffixes =
      let f = first_front ask w 0 prefix_forms in
      let h = rows_few ask (least_root f.prefix) 0 suffixes (whole_stage (drop f.from w)) in
      let n = suffix-count in
      omega arith
