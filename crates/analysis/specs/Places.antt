-- The readings that the code finds, said of places in the word. Assumes nothing.
use Rattle.std.specs.Prelude.{ℕ, ◌-◌, List, [], ◌∷◌, take, drop}
use Rattle.runs.specs.Runs.{pick}
use Rattle.sheet.specs.Replies.{Ask}
use Rattle.ranking.specs.declared.Reading.{Reading}
use Rattle.paths.specs.declared.Chain.{Chain}
use Rattle.paths.specs.declared.Prefixes.{Prefixes}
use Rattle.paths.specs.Support.{is_supported}
use Rattle.paths.specs.Readings.{built}

-- the bytes of w from b up to e
abbrev pub between : List ℕ → ℕ → ℕ → List ℕ
between w b e = take (e - b) (drop b w)

-- the reading whose stem ends at e and whose root begins at b, where the root is supported
abbrev pub root_found : Ask → ℕ → Chain → List ℕ → ℕ → ℕ → Prefixes → List Reading
root_found ask surface c w e b prefixes =
    pick (is_supported ask (between w b e)) (built ask surface e b (between w b e) prefixes c ∷ []) []
