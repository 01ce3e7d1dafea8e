-- What is told of the findings of a sheet, into a lent list or buffer. Assumes nothing.
use Rattle.std.specs.Prelude.{ℕ, ◌≡◌, List, Ok}
use denote.Ref.{Bor, MutBor}
use Rattle.sheet.specs.Lines.{sheet_check}
use Rattle.referred.specs.declared.lines.Report.{Report}

-- the sheet s is accepted, and what was told was told of its report, into what held `old` before and holds `new` now; `gives` says what it
-- gave and left
pub record Told {T : Type 0} (s : List ℕ) (old new : List T) (gives : Bor Report → MutBor (List T) → MutBor (List T) → Type 0) : Type 0 where
  pub accepted : sheet_check s ≡ Ok tt
  pub report : Bor Report
  pub of_sheet : report.now.sheet.now ≡ s
  pub lent : MutBor (List T)
  pub left : MutBor (List T)
  pub before : lent.now ≡ old
  pub after : left.now ≡ new
  pub given : gives report lent left
