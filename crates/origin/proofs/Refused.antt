-- The answers of origin by what is said of word and sheet, and their numbers: the lowest that applies, none where word and sheet are accepted. Assumes nothing.
use Rattle.std.specs.Prelude.{Err, Ok, Result}
use Rattle.refusals.specs.declared.Refusal.{Refusal}
use Prim.Native.Nat.{ℕ}
use mathlib.Core.Path.{◌≡◌, refl, sym, ap, ◌∙◌}
use mathlib.Core.List.{List}
use Rattle.sheet.specs.Inputs.{inputs_of, numbers_given, lowest_numbers}
use Rattle.sheet.proofs.Refusals.{lowest}
use Rattle.sheet.specs.Replies.{reply}
use Rattle.origin.specs.Decisions.{decision_of}
use Rattle.origin.specs.declared.OriginDecision.{OriginDecision}
use Rattle.origin.specs.Answers.{decision_if, decision_answer, origin_only, decision_numbers, classify_numbers}

module _ (w s : List ℕ) where
  -- a refusal is given as it is, and else the decision
  pub refused : (r : Refusal) → inputs_of w s ≡ Err r → Err r ≡ decision_answer w s
  unfolding decision_answer
  refused r e = ap (λ (i : Result (Unit {0}) Refusal). decision_if i w s) (sym e)

  pub given : (d : OriginDecision) → inputs_of w s ≡ Ok tt → d ≡ decision_of (reply s) w → Ok d ≡ decision_answer w s
  unfolding decision_answer
  given d e f = ap (λ (x : OriginDecision). Ok x) f ∙ ap (λ (i : Result (Unit {0}) Refusal). decision_if i w s) (sym e)

  pub decision_lowest : decision_numbers (decision_answer w s) ≡ lowest_numbers w s
  unfolding decision_answer
  decision_lowest = by (inputs_of w s) ∙ lowest w s
    where
      by : (i : Result (Unit {0}) Refusal) → decision_numbers (decision_if i w s) ≡ numbers_given i
      by (Ok _) = refl
      by (Err r) = refl

  pub classify_lowest : classify_numbers (origin_only (decision_answer w s)) ≡ lowest_numbers w s
  unfolding decision_answer
  classify_lowest = by (inputs_of w s) ∙ lowest w s
    where
      by : (i : Result (Unit {0}) Refusal) → classify_numbers (origin_only (decision_if i w s)) ≡ numbers_given i
      by (Ok _) = refl
      by (Err r) = refl
