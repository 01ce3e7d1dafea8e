-- No reading of an accepted word scores more than 612: `score_bound` for numbers, `path_score` for the paths of a word of at most 192
-- bytes. Assumes nothing.
use Prim.Native.Nat.{ℕ, ◌+◌, ◌≤◌}
use native.Mathlib.Omega.{arith}
use mathlib.Core.Bool.{Bool, true, false}
use mathlib.Core.List.{List}
use lib.ListN.{length}
use lib.Dec.{ltb}
use Rattle.text.specs.Characters.{chars}
use Rattle.text.proofs.Scan.{chars_most}
use Rattle.sheet.specs.Replies.{Ask, letters_by}
use Rattle.ranking.specs.Scores.{points}
use Rattle.paths.specs.Support.{has_sibling, score_of}
use Rattle.paths.specs.Chains.{Route, PathOf}
use Rattle.paths.specs.Readings.{reading_of}

points_most : (b : Bool) (n : ℕ) → points b n ≤ n
points_most true n = omega arith
points_most false n = omega arith

pub score_bound : (ask : Ask) (n : ℕ) (root : List ℕ) (p s : ℕ) → n ≤ 192 → p ≤ 2 → s ≤ 4 → score_of ask n root p s ≤ 612
unfolding score_of
score_bound ask n root p s h i j =
    let a = points_most (letters_by ask root).word 100 in
    let b = points_most (letters_by ask root).head 150 in
    let c = points_most (has_sibling ask root) 60 in
    let d = points_most (ltb 0 (p + s)) 10 in
    omega arith

pub path_score : (ask : Ask) (w : List ℕ) (p : Route) → length w ≤ 192 → PathOf ask w p → (reading_of ask w p).score ≤ 612
unfolding reading_of
path_score ask w p h a =
    let k = chars_most w in
    score_bound ask (chars w) p.root (length p.prefix_rows) (length p.strips) (omega arith) a.few_prefixes a.few_strips
