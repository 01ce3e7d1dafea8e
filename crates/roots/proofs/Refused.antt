-- The answers of root candidates by what is said of word and sheet, and what an answer says of them. Assumes nothing.
use Rattle.std.specs.Prelude.{Err, Ok, Result}
use Rattle.refusals.specs.declared.Refusal.{Refusal}
use Prim.Native.Nat.{ℕ}
use mathlib.Core.Path.{◌≡◌, refl, sym, ap, ◌∙◌}
use mathlib.Core.List.{List}
use Rattle.arrayvec.specs.ArrayVec.{ArrayVec}
use Rattle.sheet.specs.Inputs.{inputs_of}
use Rattle.sheet.specs.Replies.{reply}
use Rattle.roots.specs.Candidates.{candidates}
use Rattle.roots.specs.Answers.{roots_if, roots_for, roots_by, roots_answer}
use Rattle.roots.specs.declared.RootCandidate.{RootCandidate}

module _ (w s : List ℕ) where
  -- a refusal is given as it is, and else the candidates
  pub refused : (r : Refusal) → inputs_of w s ≡ Err r → Err r ≡ roots_answer w s
  unfolding roots_answer
  refused r e = ap (λ (i : Result (Unit {0}) Refusal). roots_by i (roots_for w s)) (sym e)

  pub given : (l : ArrayVec RootCandidate) → inputs_of w s ≡ Ok (tt {0}) → l.items ≡ candidates (reply s) w → Ok l ≡ roots_answer w s
  unfolding roots_answer roots_for
  given l e f =
      ap (λ (xs : List RootCandidate). Ok (record { items = xs })) f
      ∙ ap (λ (i : Result (Unit {0}) Refusal). roots_by i (roots_if i w s)) (sym e)

  -- an answer is a refusal where word or sheet is refused, and else lists the candidates
  pub roots-refused : (r : Refusal) → roots_answer w s ≡ Err r → inputs_of w s ≡ Err r
  unfolding roots_answer
  roots-refused r = by (inputs_of w s)
    where
      by : (i : Result (Unit {0}) Refusal) → roots_by i (roots_for w s) ≡ Err r → i ≡ Err r
      by (Ok _) e = cc
      by (Err q) e = cc

  pub roots-listed : (l : ArrayVec RootCandidate) → roots_answer w s ≡ Ok l → (inputs_of w s ≡ Ok tt) × (l.items ≡ roots_for w s)
  unfolding roots_answer
  roots-listed l = by (inputs_of w s)
    where
      by : (i : Result (Unit {0}) Refusal) → roots_by i (roots_for w s) ≡ Ok l → (i ≡ Ok tt) × (l.items ≡ roots_for w s)
      by (Ok _) e = (refl, cc)
      by (Err q) e = cc
