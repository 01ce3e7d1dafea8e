-- The list of readings in rank order, and where it stops: at more than 64. Assumes nothing.
use Rattle.std.specs.Prelude.{ℕ, List, [], ◌∷◌, length, ltb}
use Rattle.runs.specs.Runs.{pick}
use Rattle.ranking.specs.Rank.{ahead_of}
use Rattle.ranking.specs.declared.Reading.{Reading}
use Rattle.ranking.specs.declared.Classified.{Classified}
use Rattle.origin.specs.declared.OriginDecision.{OriginDecision}

-- the most readings that a list holds
abbrev pub list_limit : ℕ
list_limit = 64

-- a reading with what is decided of its root (document 02 (h)): origin, source and confidence
abbrev pub with_origin : Reading → OriginDecision → Classified
with_origin r d = record { reading = r; origin = d.origin; source = d.source; confidence = d.confidence }

-- r put in before the first row that it is ahead of, so behind its equals that came before it
unfoldable pub ranked : List ℕ → Reading → List Reading → List Reading
ranked w r [] = r ∷ []
ranked w r (x ∷ xs) = pick (ahead_of w r x) (r ∷ x ∷ xs) (x ∷ ranked w r xs)

-- what has been collected: rows in rank order, or more than 64 of them
pub data Rows : Type 0 where
  rows : List Reading → Rows
  over : Rows

-- one reading more
unfoldable pub plus : List ℕ → Rows → Reading → Rows
plus w over r = over
plus w (rows xs) r = pick (ltb (length xs) list_limit) (rows (ranked w r xs)) over

-- several, in their order
unfoldable pub plus_all : List ℕ → Rows → List Reading → Rows
plus_all w a [] = a
plus_all w a (r ∷ rs) = plus_all w (plus w a r) rs
