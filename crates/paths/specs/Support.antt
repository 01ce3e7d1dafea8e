-- Which roots are supported, and how a reading scores (document 01, "Strips, readings, rank"), said of replies. Assumes nothing.
use Rattle.std.specs.Prelude.{ℕ, Bool, false, not, ◌&&◌, ◌||◌, List, [], ◌∷◌, ◌++◌, length, eqb}
use Rattle.tables.specs.Tables.{affixes}
use Rattle.sheet.specs.Letters.{is_known as known_by}
use Rattle.sheet.specs.Replies.{Ask, letters_by}
use Rattle.progressive.specs.Progressive.{is_progressive}
use Rattle.ranking.specs.Scores.{score_for}

-- the sheet knows a name: by w or by h
abbrev pub is_known : Ask → List ℕ → Bool
is_known ask name = known_by (letters_by ask name)

-- it knows the name with one of the texts appended
unfoldable pub known_with : Ask → List ℕ → List (List ℕ) → Bool
known_with ask name [] = false
known_with ask name (t ∷ ts) = is_known ask (name ++ t) || known_with ask name ts

-- an appended form is known: one of the 25 particles, case or plural markers appended
abbrev pub has_sibling : Ask → List ℕ → Bool
has_sibling ask name = known_with ask name affixes

-- an empty root is never supported; any other is if it is known, or an appended form is, or it is a supported progressive form
unfoldable pub is_supported : Ask → List ℕ → Bool
is_supported ask root = not (eqb (length root) 0) && (is_known ask root || has_sibling ask root || is_progressive ask root)

-- the score of a root with so many affixes
unfoldable pub score_of : Ask → ℕ → List ℕ → ℕ → ℕ → ℕ
score_of ask surface root prefixes suffixes =
    score_for (letters_by ask root).word (letters_by ask root).head (has_sibling ask root) prefixes suffixes surface
