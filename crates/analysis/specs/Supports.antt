-- What the code knows of a root: its support as a record. Assumes nothing.
use Rattle.std.specs.Prelude.{ℕ, ◌-◌, eqb, leb, Bool, not, ◌&&◌, ◌||◌, List}
use Rattle.sheet.specs.Replies.{Ask, letters_by}
use Rattle.sheet.specs.declared.letters.Letters.{Letters}
use Rattle.lookup.specs.declared.begins.Range.{Range}
use Rattle.progressive.specs.Progressive.{is_progressive}
use Rattle.ranking.specs.Scores.{score_for}
use Rattle.paths.specs.Support.{has_sibling}
use Rattle.analysis.specs.declared.support.Support.{Support}

-- of the lines whose names begin with a root there is at most one, and the root has letters: that line is the root's own
abbrev pub is_alone : Range → Letters → Bool
is_alone range letters = leb (range.hi - range.lo) 1 && (letters.word || letters.head)

abbrev pub support_of : Ask → List ℕ → Support
support_of ask root = record {
  word = (letters_by ask root).word;
  head = (letters_by ask root).head;
  sibling = has_sibling ask root;
  progressive = is_progressive ask root;
}

-- the score of a support, which is that of its root
abbrev pub score_from : ℕ → Support → ℕ → ℕ → ℕ
score_from surface s prefixes suffixes = score_for s.word s.head s.sibling prefixes suffixes surface

-- whether a root with this support, and so many bytes, is supported
abbrev pub supports : Support → ℕ → Bool
supports s n = not (eqb n 0) && (s.word || s.head || s.sibling || s.progressive)
