-- What the program prints, whatever stretches its input comes in: for a sheet that is accepted a line for each word of the whole input, in
-- order; for any other its refusal alone. `put_lines` puts the lines of a stretch, `put_last` that of the last word. Assumes nothing.
use Rattle.std.specs.Prelude.{Err, Ok, Result}
use Prim.Native.Nat.{ℕ}
use mathlib.Core.Path.{◌≡◌, sym, ap, ◌∙◌}
use mathlib.Core.List.{List, [], ◌++◌}
use Rattle.refusals.specs.Refusals.{numbers_of}
use Rattle.refusals.specs.declared.Refusal.{Refusal}
use Rattle.sheet.specs.Lines.{sheet_check}
use Rattle.sheet.specs.Inputs.{by_sheet}
use Rattle.sheet.specs.declared.check.SheetFault.{SheetFault}
use Rattle.writing.specs.Refused.{refused_text}
use Rattle.visits.specs.Printed.{said_or, lines_of, unended, last_line, printed}
use Rattle.visits.proofs.Stretches.{joined, stretch_text, stretches_print}

pub words_printed : (sheet : List ℕ) (stretches : List (List ℕ)) → sheet_check sheet ≡ Ok tt → stretch_text sheet [] stretches ≡ printed sheet (joined stretches)
unfolding printed
words_printed sheet stretches e =
    stretches_print sheet stretches []
    ∙ sym (ap (λ (c : Result (Unit {0}) SheetFault). said_or (by_sheet c) (lines_of sheet [] (joined stretches) ++ last_line sheet (unended [] (joined stretches)))) e)

pub refusal-printed : (sheet input : List ℕ) (r : Refusal) → by_sheet (sheet_check sheet) ≡ Err r → printed sheet input ≡ refused_text (numbers_of r)
unfolding printed
refusal-printed sheet input r e = ap (λ (i : Result (Unit {0}) Refusal). said_or i (lines_of sheet [] input ++ last_line sheet (unended [] input))) e
