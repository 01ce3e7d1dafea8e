-- Laws of the answers that are made of the list of candidates. The proofs of `best_root` and `has_known_root` cite these. Assumes
-- nothing.
use Rattle.std.specs.Prelude.{Bool, Option, Some, None, Err, Ok, Result, slice_get}
use Rattle.std.specs.Option.{is_some as o_is_some}
use Rattle.refusals.specs.declared.Refusal.{Refusal}
use Prim.Native.Nat.{ℕ}
use mathlib.Core.Path.{◌≡◌, refl, sym, ap, ◌∙◌}
use mathlib.Core.List.{List, [], ◌∷◌}
use Rattle.arrayvec.specs.ArrayVec.{ArrayVec}
use Rattle.sheet.specs.Inputs.{inputs_of, numbers_given, lowest_numbers}
use Rattle.sheet.proofs.Refusals.{lowest}
use Rattle.roots.specs.Answers.{roots_for, roots_by, roots_answer, best_in, best_answer, known_if, known_answer, known_numbers}
use Rattle.roots.specs.declared.RootCandidate.{RootCandidate}

-- the answers made of an answer with the list
abbrev pub best_for : Result (ArrayVec RootCandidate) Refusal → Result (Option RootCandidate) Refusal
best_for (Ok l) = Ok (slice_get l.items 0)
best_for (Err r) = Err r

abbrev pub known_for : Result (Option RootCandidate) Refusal → Result Bool Refusal
known_for (Ok o) = Ok (o_is_some o)
known_for (Err r) = Err r

module _ (w s : List ℕ) where
  pub best_given : best_for (roots_answer w s) ≡ best_answer w s
  unfolding roots_answer best_answer
  best_given = by (inputs_of w s)
    where
      by : (i : Result (Unit {0}) Refusal) → best_for (roots_by i (roots_for w s)) ≡ best_in i (roots_for w s)
      by (Ok _) = refl
      by (Err r) = refl

  -- where the list is given, its first candidate is the best root; where it is empty, there is none
  pub some_best : (l : ArrayVec RootCandidate) (c : RootCandidate) (ys : List RootCandidate) → Ok l ≡ roots_answer w s → l.items ≡ c ∷ ys → Ok (Some c) ≡ best_answer w s
  some_best l c ys e f = ap (λ (xs : List RootCandidate). Ok (slice_get xs 0)) (sym f) ∙ ap best_for e ∙ best_given

  pub none_best : (l : ArrayVec RootCandidate) → Ok l ≡ roots_answer w s → l.items ≡ [] → Ok None ≡ best_answer w s
  none_best l e f = ap (λ (xs : List RootCandidate). Ok (slice_get xs 0)) (sym f) ∙ ap best_for e ∙ best_given

  pub known_given : known_for (best_answer w s) ≡ known_answer w s
  unfolding best_answer known_answer
  known_given = by (inputs_of w s) (roots_for w s)
    where
      by : (i : Result (Unit {0}) Refusal) (xs : List RootCandidate) → known_for (best_in i xs) ≡ known_if i xs
      by (Ok _) [] = refl
      by (Ok _) (x ∷ xs) = refl
      by (Err r) xs = refl

-- the number of a refusal is the lowest that applies
pub known_lowest : (w s : List ℕ) → known_numbers (known_answer w s) ≡ lowest_numbers w s
unfolding known_answer
known_lowest w s = by (inputs_of w s) ∙ lowest w s
  where
    by : (i : Result (Unit {0}) Refusal) → known_numbers (known_if i (roots_for w s)) ≡ numbers_given i
    by (Ok _) = refl
    by (Err r) = refl
