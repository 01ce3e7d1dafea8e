-- A word in parts: a prefix label, a root, suffix labels (document 01, "Decompose"), and the parts that decompose finds. The root is
-- a place in the word, a label is a row of its table. Assumes nothing.
use Rattle.std.specs.Prelude.{ℕ, zero, suc, ◌+◌, List, [], ◌∷◌, length, drop, None, Option, Some}
use Rattle.tables.specs.Rows.{prefix_forms, suffixes}
use Rattle.sheet.specs.Replies.{Ask}
use Rattle.ranking.specs.Parts.{part}
use Rattle.origin.specs.Decisions.{decision_of}
use Rattle.decomposition.specs.declared.fronts.Front.{Front}
use Rattle.decomposition.specs.declared.Parts.{Parts}
use Rattle.decomposition.specs.declared.Morpheme.{Morpheme}
use Rattle.decomposition.specs.Strips.{Stage, strip_rows, least_root, first_front}

-- exactly n numbers: those of xs, then zeros
abbrev pub filled : ℕ → List ℕ → List ℕ
filled zero xs = []
filled (suc n) [] = 0 ∷ filled n []
filled (suc n) (x ∷ xs) = x ∷ filled n xs

-- how many labels there is room for: as many as SUFFIXES has rows
abbrev pub label_limit : ℕ
label_limit = 24

-- a whole piece, with no label
abbrev pub whole_stage : List ℕ → Stage
whole_stage piece = record { piece = piece; labels = [] }

-- the parts of a word behind a front: a root of so many bytes, and the rows of its labels
abbrev pub parts_at : Front → ℕ → List ℕ → Parts
parts_at f len labels = record {
  start = f.from;
  end = f.from + len;
  prefix = f.prefix;
  suffix_count = length labels;
  suffixes = filled label_limit labels;
}

-- the same of a root by its text
abbrev pub parts_of : Front → List ℕ → List ℕ → Parts
parts_of f root labels = parts_at f (length root) labels

-- the rows of the labels of a prefix, one or none
abbrev pub prefixes_of : Option ℕ → List ℕ
prefixes_of None = []
prefixes_of (Some row) = row ∷ []

-- the root of parts of w
abbrev pub root_text : List ℕ → Parts → List ℕ
root_text w p = part w p.start p.end

-- the first prefix row, then every suffix row on what remains
unfoldable pub behind_front : Ask → List ℕ → Front → Stage
behind_front ask w f = strip_rows ask (least_root f.prefix) 0 suffixes (whole_stage (drop f.from w))

abbrev pub of_stage : Front → Stage → Parts
of_stage f s = parts_of f s.piece s.labels

unfoldable pub decomposed_of : Ask → List ℕ → Parts
decomposed_of ask w = of_stage (first_front ask w 0 prefix_forms) (behind_front ask w (first_front ask w 0 prefix_forms))

-- with the origin of the whole word
unfoldable pub morpheme_of : Ask → List ℕ → Morpheme
morpheme_of ask w = record { parts = decomposed_of ask w; origin = (decision_of ask w).origin }
