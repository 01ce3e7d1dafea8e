-- How long a report is at most, and how many findings a sheet has: both fit their bits of a code. The proofs of references.rt cite these.
-- Assumes nothing.
use Rattle.std.specs.Prelude.{Err, Ok, Result}
use Rattle.refusals.specs.declared.Refusal.{Refusal}
use Prim.Native.Nat.{ℕ, ◌≤◌}
use native.Mathlib.Omega.{arith}
use mathlib.Core.Path.{◌≡◌, refl, sym, subst}
use mathlib.Core.Bool.{Bool, true, false}
use mathlib.Core.List.{List}
use lib.ListN.{length}
use lib.Dec.{leb}
use Rattle.runs.specs.Runs.{pick}
use Rattle.refusals.specs.Refusals.{room_for}
use Rattle.refusals.specs.declared.Refusal.TheVariants.{OutputTooShort}
use Rattle.sheet.specs.Limits.{sheet_limit}
use Rattle.sheet.specs.Inputs.{by_sheet}
use Rattle.sheet.specs.Lines.{starts_of, sheet_check}
use Rattle.sheet.specs.declared.check.SheetFault.{SheetFault}
use Rattle.sheet.specs.declared.check.SheetFault.TheVariants as sheets
use Rattle.sheet.proofs.Accepted.{accepted-short}
use Rattle.sheet.proofs.Faults.{Inside, fault-inside}
use Rattle.lookup.proofs.Count.{few-lines}
use Rattle.referred.specs.Report.{findings_of, report_text}
use Rattle.referred.specs.Codes.{codes_of}
use Rattle.referred.specs.Answers.{answered_by, report_outcome, found_outcome}
use Rattle.referred.proofs.Found.{codes_length}
use Rattle.referred.proofs.Sizes.{report_size, findings_few}
use Rattle.exports.specs.Codes.{most_written, Small}

room_small : (size room : ℕ) → size ≤ most_written → Small (room_for size room)
room_small size room h = by (leb size room)
  where
    by : (b : Bool) → Small (pick b (Ok size) (Err OutputTooShort))
    by true = h
    by false = tt

module _ (s : List ℕ) where
  by_check : (size room : ℕ) → (sheet_check s ≡ Ok tt → size ≤ most_written) → (c : Result (Unit {0}) SheetFault) → sheet_check s ≡ c → Inside sheet_limit c → Small (answered_by (by_sheet c) size room)
  by_check size room h (Ok _) e i = room_small size room (h e)
  by_check size room h (Err sheets.TooLong) e i = tt
  by_check size room h (Err (sheets.NoForm at)) e i = (i, tt)
  by_check size room h (Err (sheets.NotAbove at)) e i = (i, tt)

  pub report_small : (out : List ℕ) (w : Result ℕ Refusal) → w ≡ report_outcome s out → Small w
  unfolding report_outcome
  report_small out w e =
      subst Small (sym e)
      (by_check (length (report_text s)) (length out) (λ h. omega (arith, report_size s h, accepted-short s h)) (sheet_check s) refl (fault-inside s))

  pub found_small : (out : List ℕ) (w : Result ℕ Refusal) → w ≡ found_outcome s out → Small w
  unfolding found_outcome
  found_small out w e =
      subst Small (sym e)
      (by_check (length (codes_of (findings_of s))) (length out) (λ h. omega (arith, codes_length (findings_of s), findings_few s (starts_of s), few-lines s h)) (sheet_check s) refl (fault-inside s))
