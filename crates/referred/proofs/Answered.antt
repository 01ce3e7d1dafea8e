-- What the entries hand back and leave, from what was found. The proofs of entry.rt cite these. Assumes nothing.
use Rattle.std.specs.Prelude.{Err, Ok, Result}
use Prim.Native.Nat.{ℕ}
use mathlib.Core.Path.{◌≡◌, refl, ap, ◌∙◌}
use mathlib.Core.List.{List}
use lib.ListN.{length}
use Rattle.refusals.specs.Refusals.{room_for, output_by}
use Rattle.refusals.specs.declared.Refusal.{Refusal}
use Rattle.sheet.specs.Inputs.{by_sheet}
use Rattle.sheet.specs.Lines.{sheet_check}
use Rattle.referred.specs.Answers.{answered_by}

-- what is said of the sheet decides
module _ {T : Type 0} (s : List ℕ) (answer old new : List T) where
  pub refused : (r : Refusal) → by_sheet (sheet_check s) ≡ Err r → new ≡ old
      → (Err r ≡ answered_by (by_sheet (sheet_check s)) (length answer) (length old)) × (new ≡ output_by (answered_by (by_sheet (sheet_check s)) (length answer) (length old)) answer old)
  refused r e f = rw (e, f) (refl, refl)

  pub given : sheet_check s ≡ Ok tt → (r : Result ℕ Refusal) → r ≡ room_for (length answer) (length old) → new ≡ output_by r answer old
      → (r ≡ answered_by (by_sheet (sheet_check s)) (length answer) (length old)) × (new ≡ output_by (answered_by (by_sheet (sheet_check s)) (length answer) (length old)) answer old)
  given e r p q = rw e (p, q ∙ ap (λ (x : Result ℕ Refusal). output_by x answer old) p)
