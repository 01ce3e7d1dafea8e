-- What the entry that fills a lent slice of root candidates hands back (document 01, "What an entry hands back"), and what the slice
-- holds then. Assumes nothing.
use Rattle.refusals.specs.declared.Refusal.{Refusal}
use Rattle.std.specs.Prelude.{ℕ, List, ◌++◌, length, ltb, Err, Ok, Result}
use Rattle.refusals.specs.Refusals.{room_for, output_by, cause_if, lowest_numbers_of}
use Rattle.refusals.specs.declared.Refusal.TheVariants.{OutputTooShort}
use Rattle.sheet.specs.Inputs.{inputs_of, causes}
use Rattle.sheet.specs.Replies.{reply}
use Rattle.roots.specs.declared.RootCandidate.{RootCandidate}
use Rattle.roots.specs.Candidates.{candidates}
use Rattle.roots.specs.Answers.{roots_for}

-- what is said of a list of so many rows and a slice of so many elements, by what is said of word and sheet
abbrev pub roots_filled_by : Result (Unit {0}) Refusal → ℕ → ℕ → Result ℕ Refusal
roots_filled_by (Ok _) count room = room_for count room
roots_filled_by (Err r) count room = Err r

-- what is said of the word w, the sheet s and a slice of so many elements
unfoldable pub roots_filled : List ℕ → List ℕ → ℕ → Result ℕ Refusal
roots_filled w s room = roots_filled_by (inputs_of w s) (length (roots_for w s)) room

-- what the slice holds: the candidates and then its old elements, or its old elements alone
unfoldable pub roots_output : List ℕ → List ℕ → List RootCandidate → List RootCandidate
roots_output w s old = output_by (roots_filled w s (length old)) (roots_for w s) old

-- the table's causes that apply: those of word and sheet, a slice shorter than the list; and the lowest number
unfoldable pub roots_lowest : List ℕ → List ℕ → ℕ → List ℕ
roots_lowest w s room = lowest_numbers_of (causes w s ++ cause_if (ltb room (length (candidates (reply s) w))) OutputTooShort)
