-- The chains of strips (document 01, "Strips, readings, rank"), said without a search: which strips may follow one another, what
-- each leaves, and what a path of a word is. Assumes nothing.
use Rattle.std.specs.Prelude.{ℕ, ◌<◌, ◌≤◌, ◌≡◌, Bool, true, false, List, [], ◌∷◌, length, get_or, ltb}
use Rattle.runs.specs.Runs.{pick}
use Rattle.tables.specs.Rows.{prefix_forms}
use Rattle.tables.specs.Tables.{affixes}
use Rattle.strips.specs.Suffix.{plain, shared}
use Rattle.strips.specs.Prefix.{prefix_remainder}
use Rattle.sheet.specs.Replies.{Ask}
use Rattle.progressive.specs.Progressive.{is_progressive}
use Rattle.paths.specs.Support.{is_supported}

-- a strip: the row of its text among the 25 (plural markers 0 and 1, case markers 2 to 17, particles 18 to 24), and whether its
-- first character is shared
pub record Strip : Type 0 where
  pub row : ℕ
  pub is_shared : Bool

abbrev pub text_of : Strip → List ℕ
text_of x = get_or affixes x.row []

-- what a strip leaves of a piece, one or none: the shared remainder or the plain one
abbrev pub left_by : List ℕ → Strip → List (List ℕ)
left_by piece x = pick x.is_shared (shared piece (text_of x)) (plain piece (text_of x))

-- the rows of suffix texts and of prefix forms, and how many of each a path strips at most
abbrev pub all_rows : ℕ
all_rows = 25

abbrev pub all_forms : ℕ
all_forms = 30

abbrev pub most_strips : ℕ
most_strips = 4

abbrev pub most_prefixes : ℕ
most_prefixes = 2

-- how many rows, from the first on, may be stripped next: all at first; after a particle or a case marker the case and plural
-- markers; after a plural marker none

abbrev pub rows_after : ℕ → ℕ
rows_after row = pick (ltb row 2) 0 18

-- the strips lead from the piece to the stem: each is of the rows that may come next, and no piece that is a supported progressive
-- form is stripped
abbrev pub Suffixed : Ask → ℕ → List ℕ → List Strip → List ℕ → Type 0
Suffixed ask rows piece [] stem = piece ≡ stem
Suffixed ask rows piece (x ∷ strips) stem =
    (x.row < rows)
    × (is_progressive ask piece ≡ false)
    × ((left : List ℕ) × (left_by piece x ≡ left ∷ []) × Suffixed ask (rows_after x.row) left strips stem)

abbrev pub form_of : ℕ → List ℕ
form_of row = get_or prefix_forms row []

-- the prefix rows lead from the piece to the root
abbrev pub Prefixed : Ask → List ℕ → List ℕ → List ℕ → Type 0
Prefixed ask piece [] root = piece ≡ root
Prefixed ask piece (row ∷ rows) root =
    (row < all_forms)
    × (is_progressive ask piece ≡ false)
    × ((left : List ℕ) × (prefix_remainder piece (form_of row) ≡ left ∷ []) × Prefixed ask left rows root)

-- a path: strips from the outermost on, then prefix rows from the outermost on, with the stem between them and the root at the end
pub record Route : Type 0 where
  pub strips : List Strip
  pub stem : List ℕ
  pub prefix_rows : List ℕ
  pub root : List ℕ

-- a path of the word w: at most 4 strips lead from it to the stem, at most 2 prefix rows from there to the root, which is supported
pub record PathOf (ask : Ask) (w : List ℕ) (p : Route) : Type 0 where
  pub few_strips : length p.strips ≤ most_strips
  pub suffixed : Suffixed ask all_rows w p.strips p.stem
  pub few_prefixes : length p.prefix_rows ≤ most_prefixes
  pub prefixed : Prefixed ask p.stem p.prefix_rows p.root
  pub supported : is_supported ask p.root ≡ true
