-- Which origin a word has in ORIGIN_TABLE (document 01, "Modules"), said without a search. Assumes nothing.
use Rattle.std.specs.Prelude.{ℕ, List, [], ◌∷◌, Option, Some, None}
use Rattle.runs.specs.Runs.{pick, same_text}
use Rattle.tables.specs.Rows.{origin_words, origin_tags}
use Rattle.tables.specs.declared.origins.Origin.{Origin}
use Rattle.tables.specs.declared.origins.Origin.TheVariants.{Tatsam, Tadbhav, Deshaj, Aagantuk}

-- the letter that tags an origin, as in a sheet: t b d a
abbrev pub letter_of : Origin → ℕ
letter_of Tatsam = 0x74
letter_of Tadbhav = 0x62
letter_of Deshaj = 0x64
letter_of Aagantuk = 0x61

-- the origin of the first row whose word is w, where words and origins are given row by row
abbrev pub origin_in : List (List ℕ) → List Origin → List ℕ → Option Origin
origin_in [] tags w = None
origin_in (r ∷ rows) [] w = None
origin_in (r ∷ rows) (o ∷ tags) w = pick (same_text r w) (Some o) (origin_in rows tags w)

-- the origin of w in ORIGIN_TABLE
unfoldable pub origin_of : List ℕ → Option Origin
origin_of w = origin_in origin_words origin_tags w
