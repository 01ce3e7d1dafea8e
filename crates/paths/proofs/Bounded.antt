-- The list of readings (crates/ranking): up to 64 readings stay, put in one by one (`few_stay`), more are `over` (`many_over`), and none
-- lists more (`all_fit`). Cited by Over, which says when a word's readings are too many, and for the room that a list needs. Assumes nothing.
use Prim.Native.Nat.{ℕ, suc, ◌+◌, ◌≤◌, ◌<◌}
use native.Mathlib.Omega.{arith}
use mathlib.Core.Path.{◌≡◌, refl, ap, ◌∙◌}
use mathlib.Core.Bool.{Bool, true, false}
use mathlib.Core.List.{List, [], ◌∷◌}
use lib.ListN.{length}
use lib.Dec.{ltb}
use borrow.Author.Tests.{ltb-true, lt-ltb, le-ltb}
use Rattle.runs.specs.Runs.{pick}
use Rattle.tables.proofs.Compared.{by_order}
use Rattle.ranking.specs.Rank.{ahead_of}
use Rattle.ranking.specs.Lists.{ranked, Rows, rows, over, plus, plus_all}
use Rattle.ranking.specs.declared.Reading.{Reading}

-- readings put in one by one
abbrev pub ranked_from : List ℕ → List Reading → List Reading → List Reading
ranked_from w xs [] = xs
ranked_from w xs (r ∷ rs) = ranked_from w (ranked w r xs) rs

abbrev pub ranked_all : List ℕ → List Reading → List Reading
ranked_all w rs = ranked_from w [] rs

module _ (w : List ℕ) where
  ranked-length : (r : Reading) (xs : List Reading) → length (ranked w r xs) ≡ suc (length xs)
  unfolding ranked
  ranked-length r [] = refl
  ranked-length r (x ∷ xs) = go (ahead_of w r x) (ranked-length r xs)
    where
      go : (b : Bool) → length (ranked w r xs) ≡ suc (length xs) → length (pick b (r ∷ x ∷ xs) (x ∷ ranked w r xs)) ≡ suc (suc (length xs))
      go true e = refl
      go false e = ap suc e

  plus-few : (r : Reading) (xs : List Reading) → length xs < 64 → plus w (rows xs) r ≡ rows (ranked w r xs)
  unfolding plus
  plus-few r xs h = rw (lt-ltb (length xs) 64 h)

  plus_full : (r : Reading) (xs : List Reading) → 64 ≤ length xs → plus w (rows xs) r ≡ over
  unfolding plus
  plus_full r xs h = rw (le-ltb (length xs) 64 h)

  few-from : (xs rs : List Reading) → length xs + length rs ≤ 64 → plus_all w (rows xs) rs ≡ rows (ranked_from w xs rs)
  unfolding plus_all
  few-from xs [] h = refl
  few-from xs (r ∷ rs) h =
      let n = ranked-length r xs in
      ap (λ (a : Rows). plus_all w a rs) (plus-few r xs (omega arith)) ∙ few-from (ranked w r xs) rs (omega arith)

  over_stays : (rs : List Reading) → plus_all w over rs ≡ over
  unfolding plus_all plus
  over_stays [] = refl
  over_stays (r ∷ rs) = over_stays rs

  over-from : (xs rs : List Reading) → length xs ≤ 64 → 64 < length xs + length rs → plus_all w (rows xs) rs ≡ over
  unfolding plus_all
  over-from xs [] h l = absurd (omega arith)
  over-from xs (r ∷ rs) h l =
      by_order (length xs) 64
      (λ k.
      let n = ranked-length r xs in
      ap (λ (a : Rows). plus_all w a rs) (plus-few r xs k) ∙ over-from (ranked w r xs) rs (omega arith) (omega arith))
      (λ k. ap (λ (a : Rows). plus_all w a rs) (plus_full r xs k) ∙ over_stays rs)

  -- up to 64 readings are all listed, in rank order
  pub few_stay : (rs : List Reading) → length rs ≤ 64 → plus_all w (rows []) rs ≡ rows (ranked_all w rs)
  few_stay rs h = few-from [] rs (omega arith)

  -- more are over
  pub many_over : (rs : List Reading) → 64 < length rs → plus_all w (rows []) rs ≡ over
  many_over rs h = over-from [] rs (omega arith) (omega arith)

-- how many rows are listed
abbrev pub row_count : Rows → ℕ
row_count (rows xs) = length xs
row_count over = 0

module _ (w : List ℕ) where
  plus-fits : (a : Rows) (r : Reading) → row_count a ≤ 64 → row_count (plus w a r) ≤ 64
  unfolding plus
  plus-fits over r h = h
  plus-fits (rows xs) r h = by (ltb (length xs) 64) refl (ranked-length w r xs)
    where
      by : (b : Bool) → ltb (length xs) 64 ≡ b → length (ranked w r xs) ≡ suc (length xs) → row_count (pick b (rows (ranked w r xs)) over) ≤ 64
      by true e n = let k = ltb-true (length xs) 64 e in omega arith
      by false e n = omega arith

  -- never more than 64
  pub all_fit : (a : Rows) (rs : List Reading) → row_count a ≤ 64 → row_count (plus_all w a rs) ≤ 64
  unfolding plus_all
  all_fit a [] h = h
  all_fit a (r ∷ rs) h = all_fit (plus w a r) rs (plus-fits a r h)
