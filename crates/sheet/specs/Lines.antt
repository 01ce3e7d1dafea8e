-- A sheet's lines and what is said of the sheet (document 01, "The sheet" and the table of refusals): numbers 4, 5 and 6.
-- Assumes nothing.
use Rattle.std.specs.Prelude.{ℕ, suc, Bool, true, false, List, [], ◌∷◌, ◌++◌, map, length, drop, eqb, ltb, Err, Ok, Result}
use Rattle.runs.specs.Runs.{pick, cmp, is_less}
use Rattle.refusals.specs.declared.Refusal.{Refusal}
use Rattle.refusals.specs.declared.Refusal.TheVariants.{SheetTooLong, SheetNoForm, SheetNotAbove}
use Rattle.sheet.specs.Limits.{sheet_limit}
use Rattle.sheet.specs.Forms.{Entry, entry_of, written, is_form, key}
use Rattle.sheet.specs.declared.line.LineFault.{LineFault}
use Rattle.sheet.specs.declared.line.LineFault.TheVariants as line
use Rattle.sheet.specs.declared.check.SheetFault.{SheetFault}
use Rattle.sheet.specs.declared.check.SheetFault.TheVariants.{TooLong, NoForm, NotAbove}

-- the refusal that a fault of a sheet is
abbrev pub refusal_of : SheetFault → Refusal
refusal_of TooLong = SheetTooLong
refusal_of (NoForm at) = SheetNoForm at
refusal_of (NotAbove at) = SheetNotAbove at

-- the sheet's fault where the line at `at` is refused
abbrev pub fault_at : LineFault → ℕ → SheetFault
fault_at line.NoForm at = NoForm at
fault_at line.NotAbove at = NotAbove at

-- the place n where a line begins, before the places of the lines that follow
abbrev pub lead : Bool → ℕ → List ℕ → List ℕ
lead true n rest = n ∷ rest
lead false n rest = rest

-- the first byte of every line of s, which stands from byte n on; `fresh` where a line begins with s
abbrev pub starts_from : Bool → ℕ → List ℕ → List ℕ
starts_from fresh n [] = []
starts_from fresh n (b ∷ s) = lead fresh n (starts_from (eqb b 0x0A) (suc n) s)

-- the first byte of every line: byte 0 of a sheet that is not empty, and each byte after a 0A
abbrev pub starts_of : List ℕ → List ℕ
starts_of s = starts_from true 0 s

-- the entry of the line that begins at byte `at`
abbrev pub line_at : List ℕ → ℕ → Entry
line_at s at = entry_of (drop at s)

-- the sheet's entries, in its order
abbrev pub lines_of : List ℕ → List Entry
lines_of s = map (line_at s) (starts_of s)

-- the sheet that entries make, each written out
abbrev pub sheet_text : List Entry → List ℕ
sheet_text [] = []
sheet_text (e ∷ es) = written e ++ sheet_text es

-- the first faulty line among those that begin at the places given, after a line with the key `last`: no form, or a form not above
unfoldable pub judged : List ℕ → List ℕ → List ℕ → Result (Unit {0}) SheetFault
judged s last [] = Ok tt
judged s last (at ∷ rest) =
    pick (is_form (drop at s))
    (pick (is_less (cmp last (key (line_at s at))))
    (judged s (key (line_at s at)) rest)
    (Err (NotAbove at)))
    (Err (NoForm at))

-- what is said of the sheet s; no key is below the empty one, so the first line is above what stands before it
unfoldable pub sheet_check : List ℕ → Result (Unit {0}) SheetFault
sheet_check s = pick (ltb sheet_limit (length s)) (Err TooLong) (judged s [] (starts_of s))
