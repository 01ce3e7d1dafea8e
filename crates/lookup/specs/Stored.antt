-- What is stored of a sheet while it is checked. Assumes nothing.
use Rattle.std.specs.Prelude.{ℕ, ◌<◌, ◌≡◌, List, ◌++◌, length, take, drop, get_or, Err, Ok, Result}
use Rattle.sheet.specs.Lines.{starts_of, sheet_check}
use Rattle.sheet.specs.declared.check.SheetFault.{SheetFault}
use Rattle.sheet.specs.declared.check.SheetFault.TheVariants as sheets
use Rattle.lookup.specs.declared.lines.Faulty.{Faulty}

-- of how many lines the first byte is stored: of all where the sheet is accepted, of those before the faulty line, of none of too long a
-- sheet
abbrev pub Counted : List ℕ → Result (Unit {0}) SheetFault → ℕ → Type 0
Counted s (Ok _) n = n ≡ length (starts_of s)
Counted s (Err sheets.TooLong) n = n ≡ 0
Counted s (Err (sheets.NoForm at)) n = (n < length (starts_of s)) × (get_or (starts_of s) n 0 ≡ at)
Counted s (Err (sheets.NotAbove at)) n = (n < length (starts_of s)) × (get_or (starts_of s) n 0 ≡ at)

-- the list with the first n line starts at its front, and what stood behind
abbrev pub stored_in : List ℕ → ℕ → List ℕ → List ℕ
stored_in s n before = take n (starts_of s) ++ drop n before

-- what is said of the sheet, and of how many lines the first byte is stored
abbrev pub said_of : Result ℕ Faulty → Result (Unit {0}) SheetFault
said_of (Ok n) = Ok tt
said_of (Err f) = Err f.fault

abbrev pub lines_of : Result ℕ Faulty → ℕ
lines_of (Ok n) = n
lines_of (Err f) = f.lines

-- the sheet's check with the number of its lines, or of those before the faulty one, and what the list holds then
pub record Stored (s before after : List ℕ) (r : Result ℕ Faulty) : Type 0 where
  pub said : said_of r ≡ sheet_check s
  pub lines : Counted s (said_of r) (lines_of r)
  pub stored : after ≡ stored_in s (lines_of r) before
