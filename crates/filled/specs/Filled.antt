-- What the entry that fills a lent slice hands back (document 01, "What an entry hands back"), and what the slice holds then.
-- Assumes nothing.
use Rattle.std.specs.Prelude.{ℕ, List, [], ◌∷◌, ◌++◌, length, ltb, Err, Ok, Result}
use Rattle.refusals.specs.Refusals.{room_for, output_by, cause_if, lowest_numbers_of}
use Rattle.refusals.specs.declared.Refusal.{Refusal}
use Rattle.refusals.specs.declared.Refusal.TheVariants.{TooManyReadings, OutputTooShort}
use Rattle.sheet.specs.Inputs.{causes}
use Rattle.sheet.specs.Replies.{reply}
use Rattle.ranking.specs.Lists.{Rows, rows, over}
use Rattle.ranking.specs.declared.Classified.{Classified}
use Rattle.analysis.specs.Answers.{collected, listed_rows, said_of, rows_given}

-- what is said of a list of so many rows and a slice of so many elements, by what is said of the list
abbrev pub filled_by : Result (Unit {0}) Refusal → ℕ → ℕ → Result ℕ Refusal
filled_by (Ok _) count room = room_for count room
filled_by (Err r) count room = Err r

-- what is said of the word w, the sheet s and a slice of so many elements
unfoldable pub filled_of : List ℕ → List ℕ → ℕ → Result ℕ Refusal
filled_of w s room = filled_by (said_of w s) (length (rows_given w s)) room

-- what the slice holds: the readings and then its old elements, or its old elements alone
unfoldable pub output_of : List ℕ → List ℕ → List Classified → List Classified
output_of w s old = output_by (filled_of w s (length old)) (rows_given w s) old

-- the table's causes that apply: those of word and sheet, more than 64 readings, a slice shorter than the list; and the lowest number
abbrev pub too_many : Rows → List Refusal
too_many (rows rs) = []
too_many over = TooManyReadings ∷ []

unfoldable pub filled_lowest : List ℕ → List ℕ → ℕ → List ℕ
filled_lowest w s room =
    lowest_numbers_of (causes w s ++ (too_many (collected w s) ++ cause_if (ltb room (length (listed_rows (reply s) w (collected w s)))) OutputTooShort))
