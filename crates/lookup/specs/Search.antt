-- A search by halves: what it finds, in how many rounds, and what its answer says of the sheet. Assumes nothing.
use Rattle.std.specs.Prelude.{ℕ, zero, suc, ◌+◌, ◌/◌, ◌≡◌, true, length, take, drop, get_or, eqb, None, Option, Some, IfSome}
use Rattle.std.specs.Option.{option_map}
use mathlib.Core.List.{List, [], ◌∷◌, Memᴰ}
use Rattle.runs.specs.Runs.{pick, same_text, cmp}
use Rattle.std.specs.declared.cmp.Ordering.{Ordering}
use Rattle.std.specs.declared.cmp.Ordering.TheVariants.{Less, Equal, Greater}
use Rattle.sheet.specs.Limits.{enough_rounds}
use Rattle.sheet.specs.Forms.{is_form, key, key_of}
use Rattle.sheet.specs.Lines.{starts_of, line_at}
use Rattle.sheet.specs.Replies.{Reply, unknown, told, reply}
use Rattle.sheet.specs.declared.form.FormAt.{FormAt}

-- the line with the key q among those that begin at the places given
abbrev pub place_in : List ℕ → List ℕ → List ℕ → Option ℕ
place_in s [] q = None
place_in s (at ∷ places) q = pick (same_text (key (line_at s at)) q) (Some at) (place_in s places q)

-- the line of a question: a first letter and a name
unfoldable pub place_of : List ℕ → ℕ → List ℕ → Option ℕ
place_of s letter name = place_in s (starts_of s) (key_of letter name)

-- where to look on by the order of a line and the question: among the lines above it, at the line, among the lines below it
abbrev pub judge : Ordering → Option ℕ → Option ℕ → Option ℕ → Option ℕ
judge Less up here down = up
judge Equal up here down = here
judge Greater up here down = down

-- two to the k
abbrev pub double : ℕ → ℕ
double zero = 1
double (suc k) = double k + double k

-- the line with the key q, asked in at most k rounds, each of which compares one line: the middle one of those left
unfoldable pub asked : ℕ → List ℕ → List ℕ → List ℕ → Option ℕ
asked zero s places q = None
asked (suc k) s places q =
    pick (eqb (length places) 0) None
    (judge (cmp (key (line_at s (get_or places (length places / 2) 0))) q)
    (asked k s (drop (suc (length places / 2)) places) q)
    (Some (get_or places (length places / 2) 0))
    (asked k s (take (length places / 2) places) q))

-- what the line found replies
abbrev pub answer_at : List ℕ → Option ℕ → Reply
answer_at s None = unknown
answer_at s (Some at) = told (line_at s at).value

-- a line of the question begins at byte `at`, and is a form: its name from byte at + 3 on, its value 2 bytes behind the name
pub record Stands (s : List ℕ) (letter : ℕ) (name : List ℕ) (at : ℕ) : Type 0 where
  pub line : Memᴰ at (starts_of s)
  pub form : is_form (drop at s) ≡ true
  pub asks : key (line_at s at) ≡ key_of letter name

abbrev pub Placed : List ℕ → ℕ → List ℕ → Option ℕ → Type 0
Placed s letter name None = Unit {0}
Placed s letter name (Some at) = Stands s letter name at

-- what a search gives: the question's line, as so many rounds find it, which replies what the sheet does
pub record Sought (s : List ℕ) (letter : ℕ) (name : List ℕ) (r : Option ℕ) : Type 0 where
  pub settled : r ≡ place_of s letter name
  pub counted : r ≡ asked enough_rounds s (starts_of s) (key_of letter name)
  pub answers : answer_at s r ≡ reply s letter name
  pub placed : Placed s letter name r

-- the same of the line itself
pub record Found (s : List ℕ) (letter : ℕ) (name : List ℕ) (r : Option FormAt) : Type 0 where
  pub sought : Sought s letter name (option_map (λ l. l.at) r)
  pub of_sheet : IfSome r (λ l. l.sheet.now ≡ s)
