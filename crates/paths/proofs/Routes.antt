-- All paths of a word in path order, by the two nested recursions of the walk. Walked shows that the walk gives their records in this
-- order; Sound, Complete, Unique and Ascending are about these lists. Assumes nothing.
use Prim.Native.Nat.{ℕ, zero, suc}
use mathlib.Core.Bool.{true, false}
use mathlib.Core.List.{List, [], ◌∷◌, ◌++◌, map}
use Rattle.runs.specs.Runs.{pick}
use Rattle.strips.specs.Prefix.{prefix_remainder}
use Rattle.sheet.specs.Replies.{Ask}
use Rattle.progressive.specs.Progressive.{is_progressive}
use Rattle.paths.specs.Support.{is_supported}
use Rattle.paths.specs.Chains.{all_forms, Strip, left_by, all_rows, rows_after, form_of, Route}
use Rattle.paths.specs.Walk.{on_left}

-- what a row gives, row by row: n rows from `row` on
unfoldable pub over_rows : {A : Type 0} → (ℕ → List A) → ℕ → ℕ → List A
over_rows f row zero = []
over_rows f row (suc n) = f row ++ over_rows f (suc row) n

-- prefix rows with the root that they lead to
pub record Front : Type 0 where
  pub rows : List ℕ
  pub root : List ℕ

abbrev pub behind : ℕ → Front → Front
behind row f = record { rows = row ∷ f.rows; root = f.root }

-- the piece as the root, where it is supported
unfoldable pub bare : Ask → List ℕ → List Front
bare ask piece = pick (is_supported ask piece) (record { rows = []; root = piece } ∷ []) []

-- what one prefix row gives, where `deeper` gives the fronts of what it leaves
abbrev pub fronts_at : (List ℕ → List Front) → List ℕ → ℕ → List Front
fronts_at deeper piece row = map (behind row) (on_left deeper (prefix_remainder piece (form_of row)))

-- the fronts of a piece with at most `depth` prefix rows
unfoldable pub fronts_from : ℕ → Ask → List ℕ → List Front
fronts_from zero ask piece = bare ask piece
fronts_from (suc depth) ask piece =
    bare ask piece
    ++ pick (is_progressive ask piece) [] (over_rows (fronts_at (fronts_from depth ask) piece) 0 all_forms)

abbrev pub stem_route : List ℕ → Front → Route
stem_route stem f = record { strips = []; stem = stem; prefix_rows = f.rows; root = f.root }

abbrev pub under : Strip → Route → Route
under x p = record { strips = x ∷ p.strips; stem = p.stem; prefix_rows = p.prefix_rows; root = p.root }

-- what one strip gives, where `deeper` gives the routes of what it leaves
abbrev pub stripped : (ℕ → List ℕ → List Route) → List ℕ → Strip → List Route
stripped deeper piece x = map (under x) (on_left (deeper (rows_after x.row)) (left_by piece x))

abbrev pub plainly : ℕ → Strip
plainly row = record { row = row; is_shared = false }

abbrev pub sharing : ℕ → Strip
sharing row = record { row = row; is_shared = true }

-- what one row gives: plain before shared
abbrev pub routes_at : (ℕ → List ℕ → List Route) → List ℕ → ℕ → List Route
routes_at deeper piece row = stripped deeper piece (plainly row) ++ stripped deeper piece (sharing row)

-- the routes of a piece with at most `depth` strips: it as the stem, then row by row what each leaves
unfoldable pub routes_from : ℕ → Ask → ℕ → List ℕ → List Route
routes_from zero ask rows piece = map (stem_route piece) (fronts_from 2 ask piece)
routes_from (suc depth) ask rows piece =
    map (stem_route piece) (fronts_from 2 ask piece)
    ++ pick (is_progressive ask piece) [] (over_rows (routes_at (routes_from depth ask) piece) 0 rows)

-- the paths of a word
abbrev pub routes : Ask → List ℕ → List Route
routes ask w = routes_from 4 ask all_rows w
