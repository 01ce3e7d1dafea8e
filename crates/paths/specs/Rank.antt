-- The rank of two readings in document 01's words: score, suffix count, prefix count, stem characters, all descending; stem bytes,
-- root bytes ascending; then the earlier path. Assumes nothing.
use Rattle.std.specs.Prelude.{ℕ, ◌+◌, Bool, true, false, List, map, length}
use Rattle.runs.specs.Runs.{pick, cmp}
use Rattle.std.specs.declared.cmp.Ordering.{Ordering}
use Rattle.std.specs.declared.cmp.Ordering.TheVariants.{Less, Equal, Greater}
use Rattle.text.specs.Characters.{chars}
use Rattle.sheet.specs.Replies.{Ask}
use Rattle.ranking.specs.Rank.{larger}
use Rattle.paths.specs.Support.{score_of}
use Rattle.paths.specs.Chains.{Strip, Route}

-- what comes first by an order; where it says equal, `rest` decides
abbrev pub or_else : Ordering → Bool → Bool
or_else Less rest = true
or_else Equal rest = rest
or_else Greater rest = false

-- the smaller text comes first
abbrev pub smaller : List ℕ → List ℕ → Bool → Bool
smaller s t rest = or_else (cmp s t) rest

abbrev pub score_by : Ask → List ℕ → Route → ℕ
score_by ask w p = score_of ask (chars w) p.root (length p.prefix_rows) (length p.strips)

-- a strip's place: by its row (rows are numbered by later group first, then table place), then plain before shared
abbrev pub place_of : Strip → ℕ
place_of x = x.row + x.row + pick x.is_shared 1 0

-- p is the earlier path: strip by strip from the outermost, after that prefix row by prefix row
abbrev pub earlier : Route → Route → Bool
earlier p q = smaller (map place_of p.strips) (map place_of q.strips) (smaller p.prefix_rows q.prefix_rows false)

-- the reading of p comes before the reading of q, or `rest` decides
abbrev pub ranked_or : Ask → List ℕ → Route → Route → Bool → Bool
ranked_or ask w p q rest =
    larger (score_by ask w p) (score_by ask w q)
    (larger (length p.strips) (length q.strips)
    (larger (length p.prefix_rows) (length q.prefix_rows)
    (larger (chars p.stem) (chars q.stem)
    (smaller p.stem q.stem
    (smaller p.root q.root rest)))))

abbrev pub ranked_before : Ask → List ℕ → Route → Route → Bool
ranked_before ask w p q = ranked_or ask w p q (earlier p q)
