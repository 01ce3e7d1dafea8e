-- What the program prints: its buffer has room for the longest report, and for the line of a refusal. The proof of whole.rt cites these.
-- Assumes nothing.
use Rattle.std.specs.Prelude.{Err, Ok, Result}
use Prim.Native.Nat.{ℕ, ◌≤◌, ◌<◌}
use native.Mathlib.Omega.{arith}
use mathlib.Core.Path.{◌≡◌, refl, ap, subst, ◌∙◌}
use mathlib.Core.Bool.{true}
use mathlib.Core.List.{List, [], ◌∷◌}
use lib.ListN.{length, length-append}
use lib.Dec.{leb}
use borrow.Author.Tests.{le-leb}
use Rattle.refusals.specs.Refusals.{numbers_of, output_by}
use Rattle.refusals.specs.declared.Refusal.{Refusal}
use Rattle.refusals.specs.declared.Refusal.TheVariants.{SheetTooLong, SheetNoForm, SheetNotAbove}
use Rattle.sheet.specs.Limits.{sheet_limit}
use Rattle.sheet.specs.Inputs.{by_sheet}
use Rattle.sheet.specs.Lines.{sheet_check}
use Rattle.sheet.specs.declared.check.SheetFault.{SheetFault}
use Rattle.sheet.specs.declared.check.SheetFault.TheVariants as sheets
use Rattle.sheet.proofs.Accepted.{accepted-short}
use Rattle.sheet.proofs.Faults.{Inside, fault-inside}
use Rattle.writing.specs.Placed.{Wrote, Whole}
use Rattle.writing.specs.Refused.{refused_text}
use Rattle.writing.proofs.Sizes.{digit-size, number_size}
use Rattle.writing.proofs.Wholes.{whole, front_as}
use Rattle.referred.specs.Report.{report_text}
use Rattle.referred.specs.Answers.{answered_by, report_outcome, report_left, printed_by, printed}
use Rattle.referred.proofs.Sizes.{report_size}

-- room for every report, and for the line of every refusal
abbrev room : ℕ
room = 65549

number-line : (n : ℕ) → n < 10 → length (refused_text (n ∷ [])) ≤ room
unfolding refused_text
number-line n h = let d = digit-size n h in simp length-append (omega arith)

place_line : (n start : ℕ) → n < 10 → start < 65536 → length (refused_text (n ∷ start ∷ [])) ≤ room
unfolding refused_text
place_line n start h l =
    let d = digit-size n h in
    let e = number_size start (omega arith) in
    simp length-append (omega arith)

module _ (s : List ℕ) where
  accepted-room : sheet_check s ≡ Ok tt → length (report_text s) ≤ room
  accepted-room h = omega (arith, report_size s h, accepted-short s h)

  by_check : (c : Result (Unit {0}) SheetFault) → sheet_check s ≡ c → Inside sheet_limit c → length (printed_by (by_sheet c) (report_text s)) ≤ room
  by_check (Ok _) e i = accepted-room e
  by_check (Err sheets.TooLong) e i = number-line 4 (omega arith)
  by_check (Err (sheets.NoForm at)) e i = place_line 5 at (omega arith) i
  by_check (Err (sheets.NotAbove at)) e i = place_line 6 at (omega arith) i

  -- what is printed is never longer
  pub printed-size : length (printed s) ≤ 65549
  unfolding printed
  printed-size = by_check (sheet_check s) refl (fault-inside s)

  module _ (out : List ℕ) (l : length out ≡ 65549) where
    -- the report was written
    pub reported : (new : List ℕ) (n : ℕ) → Ok n ≡ report_outcome s out → new ≡ report_left s out → Whole (printed s) out new n
    unfolding report_outcome report_left printed
    reported new n e f = by (sheet_check s) refl (fault-inside s) e f
      where
        by : (c : Result (Unit {0}) SheetFault) → sheet_check s ≡ c → Inside sheet_limit c → Ok n ≡ answered_by (by_sheet c) (length (report_text s)) (length out)
            → new ≡ output_by (answered_by (by_sheet c) (length (report_text s)) (length out)) (report_text s) out → Whole (printed_by (by_sheet c) (report_text s)) out new n
        by (Ok _) q i e f = whole (report_text s) out new (Ok n) (omega (arith, accepted-room q)) (record { given = e; left = f }) n refl
        by (Err sheets.TooLong) q i e f = let z : ◌≡◌ {A = ℕ} 0 1 = cc in absurd (omega arith)
        by (Err (sheets.NoForm at)) q i e f = let z : ◌≡◌ {A = ℕ} 0 1 = cc in absurd (omega arith)
        by (Err (sheets.NotAbove at)) q i e f = let z : ◌≡◌ {A = ℕ} 0 1 = cc in absurd (omega arith)

    -- the sheet was refused: its line is what is printed, and nothing was written before it
    pub told : (r : Refusal) → Err r ≡ report_outcome s out → (refused_text (numbers_of r) ≡ printed s) × (report_left s out ≡ out)
    unfolding report_outcome report_left printed
    told r e = by (sheet_check s) refl e
      where
        fits : sheet_check s ≡ Ok tt → leb (length (report_text s)) (length out) ≡ true
        fits q = le-leb (length (report_text s)) (length out) (omega (arith, accepted-room q))

        by : (c : Result (Unit {0}) SheetFault) → sheet_check s ≡ c → Err r ≡ answered_by (by_sheet c) (length (report_text s)) (length out)
            → (refused_text (numbers_of r) ≡ printed_by (by_sheet c) (report_text s)) × (output_by (answered_by (by_sheet c) (length (report_text s)) (length out)) (report_text s) out ≡ out)
        by (Ok _) q e =
            let k : Err r ≡ Ok (length (report_text s)) = rw (fits q) at e in
            let z : ◌≡◌ {A = ℕ} 0 1 = cc in
            absurd (omega arith)
        by (Err sheets.TooLong) q e = let k : r ≡ SheetTooLong = cc in (ap (λ (x : Refusal). refused_text (numbers_of x)) k, refl)
        by (Err (sheets.NoForm at)) q e = let k : r ≡ SheetNoForm at = cc in (ap (λ (x : Refusal). refused_text (numbers_of x)) k, refl)
        by (Err (sheets.NotAbove at)) q e = let k : r ≡ SheetNotAbove at = cc in (ap (λ (x : Refusal). refused_text (numbers_of x)) k, refl)

    pub refused : (mid new : List ℕ) (n : ℕ) (r : Refusal) → Err r ≡ report_outcome s out → mid ≡ report_left s out → Wrote mid new 0 n (refused_text (numbers_of r))
        → Whole (printed s) out new n
    refused mid new n r e f w =
        let t = told r e in
        front_as t.0 (subst (λ (x : List ℕ). Wrote x new 0 n (refused_text (numbers_of r))) (f ∙ t.1) w) (omega (arith, printed-size)) (omega arith)
