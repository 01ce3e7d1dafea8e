-- Root candidates (document 01, "Root candidates"): what is offered, what is kept of it, and the record of each. It is said of
-- replies, so that two sheets which reply alike are the same to it. Assumes nothing.
use Rattle.std.specs.Prelude.{ℕ, suc, false, List, [], ◌∷◌, ◌++◌, length, drop, leb}
use Rattle.runs.specs.Runs.{pick}
use Rattle.text.specs.Characters.{chars}
use Rattle.tables.specs.Rows.{prefix_forms, suffixes}
use Rattle.sheet.specs.Letters.{is_known}
use Rattle.sheet.specs.Replies.{Ask, letters_by}
use Rattle.sheet.specs.declared.letters.Letters.{Letters}
use Rattle.strips.specs.Prefix.{leaves}
use Rattle.origin.specs.Decisions.{decision_of}
use Rattle.ranking.specs.Scores.{score_for}
use Rattle.decomposition.specs.Strips.{label_row, least_root, left_of, no_front, front_at}
use Rattle.decomposition.specs.Parts.{root_text, prefixes_of, parts_of, decomposed_of}
use Rattle.decomposition.specs.declared.Parts.{Parts}
use Rattle.decomposition.specs.declared.fronts.Front.{Front}
use Rattle.roots.specs.Lists.{once}
use Rattle.roots.specs.declared.RootCandidate.{RootCandidate}

-- the score of parts of a word of so many characters, whose root has these letters: that of a reading, where no appended form counts
unfoldable pub score_by : ℕ → Letters → ℕ → ℕ → ℕ
score_by surface l prefixes suffixes = score_for l.word l.head false prefixes suffixes surface

-- the record of parts of w; origin is the root's
unfoldable pub candidate_by : Ask → List ℕ → Parts → Letters → RootCandidate
candidate_by ask w p l = record {
  score = score_by (chars w) l (length (prefixes_of p.prefix)) p.suffix_count;
  parts = p;
  origin = (decision_of ask (root_text w p)).origin;
  known_word = l.word;
  known_headword = l.head;
}

-- parts are offered: kept where their root is known, each root, prefixes, suffixes once
abbrev pub kept_by : Ask → List ℕ → Parts → Letters → List RootCandidate → List RootCandidate
kept_by ask w p l xs = pick (is_known l) (once w (candidate_by ask w p l) xs) xs

unfoldable pub kept_of : Ask → List ℕ → List RootCandidate → Parts → List RootCandidate
kept_of ask w xs p = kept_by ask w p (letters_by ask (root_text w p)) xs

unfoldable pub kept_all : Ask → List ℕ → List RootCandidate → List Parts → List RootCandidate
kept_all ask w xs [] = xs
kept_all ask w xs (p ∷ ps) = kept_all ask w (kept_of ask w xs p) ps

-- the remainders that have enough characters, with these labels
abbrev pub parts_among : ℕ → Front → List ℕ → List (List ℕ) → List Parts
parts_among least f labels [] = []
parts_among least f labels (r ∷ rs) = pick (leb least (chars r)) (parts_of f r labels ∷ []) [] ++ parts_among least f labels rs

-- one suffix, row k, stripped from what stands behind a front
unfoldable pub under_row : Ask → Front → List ℕ → ℕ → List ℕ → List Parts
under_row ask f piece k suffix = parts_among (least_root f.prefix) f (label_row k ∷ []) (left_of ask piece suffix)

-- each suffix row, the first of them row k
abbrev pub under_rows : Ask → Front → List ℕ → ℕ → List (List ℕ) → List Parts
under_rows ask f piece k [] = []
under_rows ask f piece k (suffix ∷ rows) = under_row ask f piece k suffix ++ under_rows ask f piece (suc k) rows

-- one suffix of what stands behind a front
unfoldable pub one_suffix : Ask → List ℕ → Front → List Parts
one_suffix ask w f = under_rows ask f (drop f.from w) 0 suffixes

-- a front with no suffix
abbrev pub bare : List ℕ → Front → Parts
bare w f = parts_of f (drop f.from w) []

-- one prefix row with none or one suffix
unfoldable pub under_form : Ask → List ℕ → ℕ → List ℕ → List Parts
under_form ask w k form = pick (leaves w form) (bare w (front_at k (length form)) ∷ one_suffix ask w (front_at k (length form))) []

abbrev pub under_forms : Ask → List ℕ → ℕ → List (List ℕ) → List Parts
under_forms ask w k [] = []
under_forms ask w k (form ∷ forms) = under_form ask w k form ++ under_forms ask w (suc k) forms

-- all that is offered: the word; the decomposition; one suffix; one prefix row with none or one suffix
unfoldable pub offers : Ask → List ℕ → List Parts
offers ask w = bare w no_front ∷ decomposed_of ask w ∷ (one_suffix ask w no_front ++ under_forms ask w 0 prefix_forms)

-- the candidates of w in rank order
unfoldable pub candidates : Ask → List ℕ → List RootCandidate
candidates ask w = kept_all ask w [] (offers ask w)
