-- What is printed of a sheet is printed of its front up to one byte past the limit: a longer one is refused. Assumes nothing.
use Rattle.std.specs.Prelude.{Err, Result}
use Rattle.std.proofs.Common.{◌≡◌, ℕ, ◌<◌, Bool, true, false, List, [], length, take}
use Rattle.std.proofs.lemmas.List.{take_all, length-take-le}
use native.Mathlib.Omega.{arith}
use mathlib.Core.Path.{sym, ap, refl, ◌∙◌}
use lib.Dec.{ltb}
use borrow.Author.Tests.{lt-ltb, ltb-true, ltb-false}
use Rattle.sheet.specs.Limits.{sheet_limit}
use Rattle.sheet.specs.Lines.{sheet_check}
use Rattle.sheet.specs.Inputs.{by_sheet}
use Rattle.sheet.specs.declared.check.SheetFault.{SheetFault}
use Rattle.sheet.specs.declared.check.SheetFault.TheVariants.{TooLong}
use Rattle.referred.specs.Answers.{printed, printed_by}

long : (s : List ℕ) → sheet_limit < length s → sheet_check s ≡ (Err TooLong)
unfolding sheet_check
long s h = rw (lt-ltb sheet_limit (length s) h) refl

refused : (s : List ℕ) (x : Result (Unit {0}) SheetFault) → sheet_check s ≡ x → x ≡ (Err TooLong) → printed s ≡ printed_by (by_sheet (Err TooLong)) []
unfolding printed
refused s x e f = rw (e ∙ f) refl

pub printed_front : (s : List ℕ) → printed (take 65537 s) ≡ printed s
printed_front s = go (ltb sheet_limit (length s)) refl
  where
    go : (b : Bool) → ltb sheet_limit (length s) ≡ b → printed (take 65537 s) ≡ printed s
    go true e =
        let h = ltb-true sheet_limit (length s) e in
        let n = length-take-le 65537 s (omega arith) in
        refused (take 65537 s) _ refl (long (take 65537 s) (omega arith)) ∙ sym (refused s _ refl (long s h))
    go false e = let h = ltb-false _ _ e in ap printed (take_all 65537 s (omega arith))
