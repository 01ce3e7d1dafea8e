-- The readings in the order in which the code finds them: that of their paths. proofs/ shows that these are the readings of the
-- word's paths, each once. The walk is said for any number handed in as the characters of the surface. Assumes nothing.
use Rattle.std.specs.Prelude.{ℕ, zero, suc, ◌+◌, ◌-◌, true, false, List, [], ◌∷◌, ◌++◌, length, get_or}
use Rattle.runs.specs.Runs.{pick}
use Rattle.strips.specs.Prefix.{prefix_remainder}
use Rattle.sheet.specs.Replies.{Ask}
use Rattle.progressive.specs.Progressive.{is_progressive}
use Rattle.ranking.specs.declared.Segment.{Segment}
use Rattle.ranking.specs.Stored.{no_segment}
use Rattle.ranking.specs.declared.Reading.{Reading}
use Rattle.paths.specs.Support.{is_supported}
use Rattle.paths.specs.Chains.{all_rows, all_forms, most_strips, Strip, left_by, rows_after, form_of}
use Rattle.paths.specs.Readings.{segment_of, built, prefixes_of}
use Rattle.paths.specs.declared.Chain.{Chain}

-- no suffix stripped yet
abbrev pub empty_chain : Chain
empty_chain = record { segments = no_segment ∷ no_segment ∷ no_segment ∷ no_segment ∷ []; count = 0 }

-- one suffix more: it stands nearer the stem than those before it
abbrev pub pushed_of : Chain → Segment → Chain
pushed_of c s = record {
  segments = s ∷ get_or c.segments 0 no_segment ∷ get_or c.segments 1 no_segment ∷ get_or c.segments 2 no_segment ∷ [];
  count = c.count + 1;
}

-- the record of a stem and a root with their affixes
abbrev pub record_of : Ask → ℕ → Chain → List ℕ → List ℕ → List ℕ → Reading
record_of ask surface c stem rows root = built ask surface (length stem) (length stem - length root) root (prefixes_of rows) c

-- the reading with this root, where the root is supported
unfoldable pub root_walk : Ask → ℕ → Chain → List ℕ → List ℕ → List ℕ → List Reading
root_walk ask surface c stem rows root = pick (is_supported ask root) (record_of ask surface c stem rows root ∷ []) []

-- what is done with what a strip leaves, if it leaves anything
abbrev pub on_left : {A : Type 0} → (List ℕ → List A) → List (List ℕ) → List A
on_left f [] = []
on_left f (left ∷ lefts) = f left

-- over n prefix rows from `row` on, what is done with what each leaves of the piece
unfoldable pub over_forms : (ℕ → List ℕ → List Reading) → List ℕ → ℕ → ℕ → List Reading
over_forms f piece row zero = []
over_forms f piece row (suc n) = on_left (f row) (prefix_remainder piece (form_of row)) ++ over_forms f piece (suc row) n

-- two prefixes: the second of them
unfoldable pub second_walk : Ask → ℕ → Chain → List ℕ → ℕ → List ℕ → List Reading
second_walk ask surface c stem first piece =
    root_walk ask surface c stem (first ∷ []) piece
    ++ pick (is_progressive ask piece) [] (over_forms (λ second left. root_walk ask surface c stem (first ∷ second ∷ []) left) piece 0 all_forms)

-- the stem alone, then its prefixes
unfoldable pub stem_walk : Ask → ℕ → Chain → List ℕ → List Reading
stem_walk ask surface c stem =
    root_walk ask surface c stem [] stem
    ++ pick (is_progressive ask stem) [] (over_forms (λ first left. second_walk ask surface c stem first left) stem 0 all_forms)

-- one strip, and what is done with what it leaves
abbrev pub strip_walk : (Chain → ℕ → List ℕ → List Reading) → Ask → Chain → List ℕ → Strip → List Reading
strip_walk deeper ask c piece x = on_left (deeper (pushed_of c (segment_of ask x)) (rows_after x.row)) (left_by piece x)

-- one row stripped: plain, then shared
abbrev pub row_walk : (Chain → ℕ → List ℕ → List Reading) → Ask → Chain → List ℕ → ℕ → List Reading
row_walk deeper ask c piece row =
    strip_walk deeper ask c piece (record { row = row; is_shared = false }) ++ strip_walk deeper ask c piece (record { row = row; is_shared = true })

-- n rows from `row` on
unfoldable pub rows_walk : (Chain → ℕ → List ℕ → List Reading) → Ask → Chain → List ℕ → ℕ → ℕ → List Reading
rows_walk deeper ask c piece row zero = []
rows_walk deeper ask c piece row (suc n) = row_walk deeper ask c piece row ++ rows_walk deeper ask c piece (suc row) n

-- the readings of a piece with the suffixes stripped so far: those that take it for the stem, then those that strip more, of which
-- there may be `depth`; `rows` may come next
unfoldable pub piece_walk : ℕ → Ask → ℕ → Chain → ℕ → List ℕ → List Reading
piece_walk zero ask surface c rows piece = stem_walk ask surface c piece
piece_walk (suc depth) ask surface c rows piece =
    stem_walk ask surface c piece
    ++ pick (is_progressive ask piece) [] (rows_walk (piece_walk depth ask surface) ask c piece 0 rows)

-- the readings of the word
abbrev pub word_walk : Ask → ℕ → List ℕ → List Reading
word_walk ask surface w = piece_walk most_strips ask surface empty_chain all_rows w
