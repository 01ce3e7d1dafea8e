-- The answers of decompose by what is said of word and sheet. Assumes nothing.
use Rattle.std.specs.Prelude.{Err, Ok, Result}
use Rattle.refusals.specs.declared.Refusal.{Refusal}
use Prim.Native.Nat.{ℕ}
use mathlib.Core.Path.{◌≡◌, sym, ap, ◌∙◌}
use mathlib.Core.List.{List}
use Rattle.sheet.specs.Inputs.{inputs_of}
use Rattle.sheet.specs.Replies.{reply}
use Rattle.decomposition.specs.Parts.{morpheme_of}
use Rattle.decomposition.specs.declared.Morpheme.{Morpheme}
use Rattle.decomposition.specs.Answers.{morpheme_if, morpheme_answer}

module _ (w s : List ℕ) where
  -- a refusal is given as it is, and else the decomposition
  pub refused : (r : Refusal) → inputs_of w s ≡ Err r → Err r ≡ morpheme_answer w s
  unfolding morpheme_answer
  refused r e = ap (λ (i : Result (Unit {0}) Refusal). morpheme_if i w s) (sym e)

  pub given : (m : Morpheme) → inputs_of w s ≡ Ok tt → m ≡ morpheme_of (reply s) w → Ok m ≡ morpheme_answer w s
  unfolding morpheme_answer
  given m e f = ap (λ (x : Morpheme). Ok x) f ∙ ap (λ (i : Result (Unit {0}) Refusal). morpheme_if i w s) (sym e)
