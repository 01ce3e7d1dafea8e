-- What an edit of a sheet in a lent buffer hands back and what the buffer holds then (document 02 (c)): 4, 5 or 6, 11, then 12 of a line
-- withdrawn or 13 of a line put. Assumes nothing.
use Rattle.refusals.specs.declared.Refusal.{Refusal}
use Rattle.std.specs.Prelude.{ℕ, Bool, true, false, ◌&&◌, ◌≡◌, List, length, take, leb, ltb, Err, Ok, Result}
use Rattle.runs.specs.Runs.{pick}
use Rattle.refusals.specs.Refusals.{output_by}
use Rattle.refusals.specs.declared.Refusal.TheVariants.{SheetTooLong, NoSingleForm, NothingToWithdraw, NoRoom}
use Rattle.sheet.specs.Limits.{sheet_limit}
use Rattle.sheet.specs.Forms.{entry_of, key}
use Rattle.sheet.specs.Lines.{lines_of, sheet_check}
use Rattle.sheet.specs.Replies.{Reply, unknown, told, reply_in}
use Rattle.sheet.specs.Inputs.{by_sheet, or_else}
use Rattle.corrected.specs.Sets.{is_single, put_text, withdrawn_text}

-- what is said of a given line alone
abbrev pub of_line : List ℕ → Result (Unit {0}) Refusal
of_line line = pick (is_single line) (Ok tt) (Err NoSingleForm)

-- what is said before the line is looked for: a used length beyond the buffer (4), the sheet (4, 5 or 6), the given line (11)
unfoldable pub opening_of : List ℕ → ℕ → List ℕ → Result (Unit {0}) Refusal
opening_of buf used line = pick (ltb (length buf) used) (Err SheetTooLong) (or_else (by_sheet (sheet_check (take used buf))) (of_line line))

-- a refusal, or where there is none the answer
abbrev pub answered_by : Result (Unit {0}) Refusal → Result ℕ Refusal → Result ℕ Refusal
answered_by (Ok _) w = w
answered_by (Err r) w = Err r

-- a sheet of so many bytes goes into so much room, and is within its limit
abbrev pub fitting : ℕ → ℕ → Result ℕ Refusal
fitting size room = pick (leb size room && leb size sheet_limit) (Ok size) (Err NoRoom)

-- there is a line to withdraw, and the sheet without it has so many bytes
abbrev pub withdrawing : Reply → ℕ → Result ℕ Refusal
withdrawing unknown size = Err NothingToWithdraw
withdrawing (told value) size = Ok size

abbrev pub is_unknown : Reply → Bool
is_unknown unknown = true
is_unknown (told value) = false

-- for a buffer, the length that the sheet in it has, and the given line: the new length or the refusal
unfoldable pub put_of : List ℕ → ℕ → List ℕ → Result ℕ Refusal
put_of buf used line = answered_by (opening_of buf used line) (fitting (length (put_text (take used buf) line)) (length buf))

unfoldable pub withdraw_of : List ℕ → ℕ → List ℕ → Result ℕ Refusal
withdraw_of buf used line =
    answered_by (opening_of buf used line)
    (withdrawing (reply_in (lines_of (take used buf)) (key (entry_of line))) (length (withdrawn_text (take used buf) line)))

-- what the buffer holds then: the new sheet, and behind it what stood there; after a refusal what it held
unfoldable pub put_left : List ℕ → ℕ → List ℕ → List ℕ
put_left buf used line = output_by (put_of buf used line) (put_text (take used buf) line) buf

unfoldable pub withdraw_left : List ℕ → ℕ → List ℕ → List ℕ
withdraw_left buf used line = output_by (withdraw_of buf used line) (withdrawn_text (take used buf) line) buf

-- an edit that was made: what the buffer holds then, and the sheet's new length
pub data Made (buf : List ℕ) (used : ℕ) (line : List ℕ) : List ℕ → ℕ → Type 0 where
  put : (n : ℕ) → put_of buf used line ≡ Ok n → Made buf used line (put_left buf used line) n
  withdrawn : (n : ℕ) → withdraw_of buf used line ≡ Ok n → Made buf used line (withdraw_left buf used line) n
