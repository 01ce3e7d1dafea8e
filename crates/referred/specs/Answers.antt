-- What the entries hand back (document 02 (k)): 4 to 6 for the sheet, then 8, else how much was written. Assumes nothing.
use Rattle.refusals.specs.declared.Refusal.{Refusal}
use Rattle.std.specs.Prelude.{ℕ, List, length, Err, Ok, Result}
use Rattle.refusals.specs.Refusals.{numbers_of, room_for, output_by}
use Rattle.sheet.specs.Inputs.{by_sheet}
use Rattle.sheet.specs.Lines.{sheet_check}
use Rattle.writing.specs.Refused.{refused_text}
use Rattle.referred.specs.Report.{findings_of, report_text}
use Rattle.referred.specs.Codes.{codes_of}

-- an answer of so much into an output with so much room, where the sheet is accepted; else its refusal
abbrev pub answered_by : Result (Unit {0}) Refusal → ℕ → ℕ → Result ℕ Refusal
answered_by (Ok _) size room = room_for size room
answered_by (Err r) size room = Err r

-- the report as text: what is handed back, and what the lent buffer holds then
unfoldable pub report_outcome : List ℕ → List ℕ → Result ℕ Refusal
report_outcome s out = answered_by (by_sheet (sheet_check s)) (length (report_text s)) (length out)

unfoldable pub report_left : List ℕ → List ℕ → List ℕ
report_left s out = output_by (report_outcome s out) (report_text s) out

-- the findings as codes: what is handed back, and what the lent list holds then
unfoldable pub found_outcome : List ℕ → List ℕ → Result ℕ Refusal
found_outcome s out = answered_by (by_sheet (sheet_check s)) (length (codes_of (findings_of s))) (length out)

unfoldable pub found_left : List ℕ → List ℕ → List ℕ
found_left s out = output_by (found_outcome s out) (codes_of (findings_of s)) out

-- what the program prints: the report, or the line of the refusal
abbrev pub printed_by : Result (Unit {0}) Refusal → List ℕ → List ℕ
printed_by (Ok _) text = text
printed_by (Err r) text = refused_text (numbers_of r)

unfoldable pub printed : List ℕ → List ℕ
printed s = printed_by (by_sheet (sheet_check s)) (report_text s)
