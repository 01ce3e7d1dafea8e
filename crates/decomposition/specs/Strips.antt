-- What decompose and root candidates strip from a piece (document 01, "Decompose"): the first prefix row that leaves a known word,
-- then each suffix row in turn. It is said of replies, so that two sheets which reply alike are the same to it. Assumes nothing.
use Rattle.std.specs.Prelude.{ℕ, suc, Bool, ◌&&◌, List, [], ◌∷◌, ◌++◌, length, eqb, leb, None, Option, Some}
use Rattle.runs.specs.Runs.{pick}
use Rattle.text.specs.Characters.{chars}
use Rattle.sheet.specs.Replies.{Ask, letters_by}
use Rattle.strips.specs.Suffix.{remainders, rests_of, keeps_pronoun}
use Rattle.strips.specs.declared.suffix.Rests.{Rests}
use Rattle.strips.specs.Prefix.{leaves, after}
use Rattle.decomposition.specs.declared.fronts.Front.{Front}

-- known by w
unfoldable pub is_word : Ask → List ℕ → Bool
is_word ask name = (letters_by ask name).word

-- the row of a suffix's label: ी, row 23, is labelled ई, row 22
unfoldable pub label_row : ℕ → ℕ
label_row k = pick (eqb k 23) 22 k

-- the fewest characters of a remainder: 1, or 4 after a prefix
unfoldable pub least_root : Option ℕ → ℕ
least_root None = 1
least_root (Some row) = 4

-- the extra rule for ई and ी keeps the piece whole
unfoldable pub is_kept : Ask → List ℕ → List ℕ → Bool
is_kept ask piece suffix = keeps_pronoun (letters_by ask piece).pronoun (letters_by ask piece).spelled suffix

-- the remainders of a piece under a suffix, with that rule
unfoldable pub left_of : Ask → List ℕ → List ℕ → List (List ℕ)
left_of ask piece suffix = pick (is_kept ask piece suffix) [] (remainders piece suffix)

-- the same as the code says them
abbrev pub no_rests : Rests
no_rests = record { plain = None; shared = None }

unfoldable pub open_rests : Ask → List ℕ → List ℕ → Rests
open_rests ask piece suffix = pick (is_kept ask piece suffix) no_rests (rests_of piece suffix)

-- a remainder that decompose takes: it has enough characters and is known by w
unfoldable pub is_taken : Ask → ℕ → List ℕ → Bool
is_taken ask least r = leb least (chars r) && is_word ask r

-- the first that it takes, one or none
abbrev pub first_taken : Ask → ℕ → List (List ℕ) → List (List ℕ)
first_taken ask least [] = []
first_taken ask least (r ∷ rs) = pick (is_taken ask least r) (r ∷ []) (first_taken ask least rs)

-- a piece on the way: what is left of it, and the rows of the labels in strip order
pub record Stage : Type 0 where
  pub piece : List ℕ
  pub labels : List ℕ

abbrev pub taken : ℕ → List (List ℕ) → Stage → Stage
taken k [] s = s
taken k (r ∷ rs) s = record { piece = r; labels = s.labels ++ (label_row k ∷ []) }

-- row k is tried on what remains
unfoldable pub strip_row : Ask → ℕ → ℕ → List ℕ → Stage → Stage
strip_row ask least k suffix s = taken k (first_taken ask least (left_of ask s.piece suffix)) s

-- every row in order, the first of them row k; the next row goes on from what the one before has left
abbrev pub strip_rows : Ask → ℕ → ℕ → List (List ℕ) → Stage → Stage
strip_rows ask least k [] s = s
strip_rows ask least k (suffix ∷ rows) s = strip_rows ask least (suc k) rows (strip_row ask least k suffix s)

-- What a prefix row leaves: the row, where one was stripped, and the byte from which on the word is left.
abbrev pub no_front : Front
no_front = record { prefix = None; from = 0 }

abbrev pub front_at : ℕ → ℕ → Front
front_at k from = record { prefix = Some k; from = from }

-- a form leaves enough, and that is known by w
unfoldable pub leaves_word : Ask → List ℕ → List ℕ → Bool
leaves_word ask w form = leaves w form && is_word ask (after w form)

unfoldable pub word_rest : Ask → List ℕ → List ℕ → Option ℕ
word_rest ask w form = pick (leaves_word ask w form) (Some (length form)) None

-- the first such row, the first of them row k
abbrev pub first_front : Ask → List ℕ → ℕ → List (List ℕ) → Front
first_front ask w k [] = no_front
first_front ask w k (form ∷ forms) = pick (leaves_word ask w form) (front_at k (length form)) (first_front ask w (suc k) forms)
