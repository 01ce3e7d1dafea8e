-- What a prefix form leaves of a piece (document 01, "Strips, readings, rank"), and how the code says it. Readings, decompose and
-- candidates all strip by it. Assumes nothing.
use Rattle.std.specs.Prelude.{ℕ, Bool, ◌&&◌, List, [], ◌∷◌, length, drop, eqb, leb, None, Option, Some}
use Rattle.runs.specs.Runs.{pick, begins_with}
use Rattle.text.specs.Characters.{chars}

-- how many characters a form leaves at least: 2, or 4 where the form is one character
unfoldable pub least_after : List ℕ → ℕ
least_after form = pick (eqb (chars form) 1) 4 2

-- the piece without the form
abbrev pub after : List ℕ → List ℕ → List ℕ
after piece form = drop (length form) piece

-- the piece begins with the form, which leaves enough
unfoldable pub leaves : List ℕ → List ℕ → Bool
leaves piece form = begins_with form piece && leb (least_after form) (chars (after piece form))

-- what the form leaves, one or none
unfoldable pub prefix_remainder : List ℕ → List ℕ → List (List ℕ)
prefix_remainder piece form = pick (leaves piece form) (after piece form ∷ []) []

-- the same as the code says it: the byte of the piece from which on it is left
unfoldable pub rest_of : List ℕ → List ℕ → Option ℕ
rest_of piece form = pick (leaves piece form) (Some (length form)) None

-- the part of the piece that such an answer says
abbrev pub behind : List ℕ → Option ℕ → List (List ℕ)
behind piece None = []
behind piece (Some n) = drop n piece ∷ []
