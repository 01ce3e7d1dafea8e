-- What the core call and the two beside it hand back (document 01, "What an entry hands back"): the refusals of word and sheet, then 7
-- for more than 64 readings, else the list. Assumes nothing.
use Rattle.refusals.specs.declared.Refusal.{Refusal}
use Rattle.std.specs.Prelude.{ℕ, Bool, true, false, List, [], ◌∷◌, map, Err, Ok, Result, Option, slice_get}
use Rattle.text.specs.Characters.{chars}
use Rattle.refusals.specs.Refusals.{numbers_of}
use Rattle.refusals.specs.declared.Refusal.TheVariants.{TooManyReadings}
use Rattle.sheet.specs.Inputs.{inputs_of}
use Rattle.sheet.specs.Replies.{Ask, reply}
use Rattle.ranking.specs.Lists.{Rows, rows, over, plus_all}
use Rattle.ranking.specs.declared.Classified.{Classified}
use Rattle.paths.specs.Readings.{classified}
use Rattle.paths.specs.Walk.{word_walk}
use Rattle.paths.specs.Visits.{visits_of}
use Rattle.arrayvec.specs.ArrayVec.{ArrayVec}

-- all readings of w under the sheet s as the walk keeps them, in rank order, or that there are more than 64
abbrev pub collected : List ℕ → List ℕ → Rows
collected w s = plus_all w (rows []) (word_walk (reply s) (chars w) w)

abbrev pub by_rows : Rows → Result (Unit {0}) Refusal
by_rows (rows rs) = Ok tt
by_rows over = Err TooManyReadings

-- the rows that are handed out of them: each reading with its root's origin, source and confidence
abbrev pub listed_rows : Ask → List ℕ → Rows → List Classified
listed_rows ask w (rows rs) = map (classified ask w) rs
listed_rows ask w over = []

-- what is said, by what is said of word and sheet together, and of what has been collected
abbrev pub said_by : Result (Unit {0}) Refusal → Rows → Result (Unit {0}) Refusal
said_by (Ok _) c = by_rows c
said_by (Err r) c = Err r

abbrev pub rows_by : Result (Unit {0}) Refusal → List Classified → List Classified
rows_by (Ok _) rs = rs
rows_by (Err r) rs = []

-- what is said of the word w and the sheet s
unfoldable pub said_of : List ℕ → List ℕ → Result (Unit {0}) Refusal
said_of w s = said_by (inputs_of w s) (collected w s)

-- the rows of the list: those collected where word and sheet are accepted, else none
unfoldable pub rows_given : List ℕ → List ℕ → List Classified
rows_given w s = rows_by (inputs_of w s) (listed_rows (reply s) w (collected w s))

-- the rows, or why there are none
abbrev pub answer_by : Result (Unit {0}) Refusal → List Classified → Result (ArrayVec Classified) Refusal
answer_by (Ok _) rs = Ok (record { items = rs })
answer_by (Err r) rs = Err r

unfoldable pub answer_of : List ℕ → List ℕ → Result (ArrayVec Classified) Refusal
answer_of w s = answer_by (said_of w s) (rows_given w s)

-- of what the walk has collected alone
abbrev pub list_of : Ask → List ℕ → Rows → Result (ArrayVec Classified) Refusal
list_of ask w c = answer_by (by_rows c) (listed_rows ask w c)

-- the pieces visited: those of an accepted word under an accepted sheet, also where there are too many readings; none where either is
-- refused
abbrev pub visits_by : Result (Unit {0}) Refusal → ℕ → ℕ
visits_by (Ok _) n = n
visits_by (Err r) n = 0

unfoldable pub visits_given : List ℕ → List ℕ → ℕ
visits_given w s = visits_by (inputs_of w s) (visits_of (reply s) w)

-- the number alone, or why there is none: a refusal of word or sheet
abbrev pub visits_in : Result (Unit {0}) Refusal → ℕ → Result ℕ Refusal
visits_in (Ok _) n = Ok n
visits_in (Err r) n = Err r

unfoldable pub visits_answer : List ℕ → List ℕ → Result ℕ Refusal
visits_answer w s = visits_in (inputs_of w s) (visits_of (reply s) w)

-- the number of each answer with its place; none where the list is given
abbrev pub said_numbers : Result (Unit {0}) Refusal → List ℕ
said_numbers (Ok _) = []
said_numbers (Err r) = numbers_of r

-- the first of the rows given, if there is one
abbrev pub best_by : Result (Unit {0}) Refusal → Option Classified → Result (Option Classified) Refusal
best_by (Ok _) r = Ok r
best_by (Err r) b = Err r

unfoldable pub best_of : List ℕ → List ℕ → Result (Option Classified) Refusal
best_of w s = best_by (said_of w s) (slice_get (rows_given w s) 0)

-- whether there is one among the rows given
abbrev pub is_some : List Classified → Bool
is_some [] = false
is_some (r ∷ rs) = true

abbrev pub has_by : Result (Unit {0}) Refusal → Bool → Result Bool Refusal
has_by (Ok _) b = Ok b
has_by (Err r) b = Err r

-- of what the walk has collected alone
abbrev pub has_kept : Ask → List ℕ → Rows → Result Bool Refusal
has_kept ask w c = has_by (by_rows c) (is_some (listed_rows ask w c))

unfoldable pub has_of : List ℕ → List ℕ → Result Bool Refusal
has_of w s = has_by (said_of w s) (is_some (rows_given w s))

-- the same of a yes or no
abbrev pub has_numbers : Result Bool Refusal → List ℕ
has_numbers (Ok b) = []
has_numbers (Err r) = numbers_of r
