-- Answers that are made from another answer, joined to it: whether there is a reading or a candidate, the first of them, the origin of a
-- decision. A definition that said otherwise would fail here. Assumes nothing.
use Rattle.std.specs.Prelude.{Err, Ok, Result, Some, None}
use Prim.Native.Nat.{ℕ, ◌<◌}
use native.Mathlib.Omega.{arith}
use mathlib.Core.Path.{◌≡◌, refl, ap}
use mathlib.Core.Bool.{Bool, true, false}
use mathlib.Core.Logic.{◌↔◌}
use mathlib.Core.List.{List, [], ◌∷◌}
use lib.ListN.{length}
use Rattle.sheet.specs.Inputs.{inputs_of}
use Rattle.ranking.specs.declared.Classified.{Classified}
use Rattle.refusals.specs.declared.Refusal.{Refusal}
use Rattle.analysis.specs.Answers.{said_of, said_numbers, rows_given, is_some, has_by, has_of, has_numbers}
use Rattle.roots.specs.Answers.{roots_for, best_answer, known_if, known_answer}
use Rattle.roots.specs.declared.RootCandidate.{RootCandidate}
use Rattle.origin.specs.Answers.{decision_answer, origin_only}
use Rattle.origin.specs.declared.OriginDecision.{OriginDecision}

-- what a yes tells apart
abbrev yes_in : Result Bool Refusal → ℕ
yes_in (Ok true) = 1
yes_in (Ok false) = 0
yes_in (Err r) = 0

-- a word has a reading exactly where its list is given and is not empty
pub has_exactly : (w s : List ℕ) → (has_of w s ≡ Ok true) ↔ ((said_of w s ≡ Ok tt) × (0 < length (rows_given w s)))
unfolding has_of
has_exactly w s = (there (said_of w s) (rows_given w s), (λ h. back (said_of w s) (rows_given w s) h.0 h.1))
  where
    there : (x : Result (Unit {0}) Refusal) (rs : List Classified) → has_by x (is_some rs) ≡ Ok true → (x ≡ Ok tt) × (0 < length rs)
    there (Ok _) [] e = let z : ◌≡◌ {A = ℕ} 0 1 = ap yes_in e in absurd (omega arith)
    there (Ok _) (r ∷ rs) e = (refl, omega arith)
    there (Err r) rs e = let z : ◌≡◌ {A = ℕ} 0 1 = ap yes_in e in absurd (omega arith)

    back : (x : Result (Unit {0}) Refusal) (rs : List Classified) → x ≡ Ok tt → 0 < length rs → has_by x (is_some rs) ≡ Ok true
    back x [] e h = absurd (omega arith)
    back x (r ∷ rs) e h = ap (λ (y : Result (Unit {0}) Refusal). has_by y true) e

-- a word has a known root exactly where word and sheet are accepted and there is a candidate
pub known_exactly : (w s : List ℕ) → (known_answer w s ≡ Ok true) ↔ ((inputs_of w s ≡ Ok tt) × (0 < length (roots_for w s)))
unfolding known_answer
known_exactly w s = (there (inputs_of w s) (roots_for w s), (λ h. back (inputs_of w s) (roots_for w s) h.0 h.1))
  where
    there : (i : Result (Unit {0}) Refusal) (rs : List RootCandidate) → known_if i rs ≡ Ok true → (i ≡ Ok tt) × (0 < length rs)
    there (Ok _) [] e = let z : ◌≡◌ {A = ℕ} 0 1 = ap yes_in e in absurd (omega arith)
    there (Ok _) (r ∷ rs) e = (refl, omega arith)
    there (Err r) rs e = let z : ◌≡◌ {A = ℕ} 0 1 = ap yes_in e in absurd (omega arith)

    back : (i : Result (Unit {0}) Refusal) (rs : List RootCandidate) → i ≡ Ok tt → 0 < length rs → known_if i rs ≡ Ok true
    back i [] e h = absurd (omega arith)
    back i (r ∷ rs) e h = ap (λ (j : Result (Unit {0}) Refusal). known_if j (r ∷ rs)) e

-- the best root is the first candidate, and there is none exactly where there is no candidate; what refuses word and sheet refuses it
pub best_first : (w s : List ℕ) (r : RootCandidate) (rs : List RootCandidate) → inputs_of w s ≡ Ok tt → roots_for w s ≡ r ∷ rs → best_answer w s ≡ Ok (Some r)
unfolding best_answer
best_first w s r rs a e = rw (a, e) refl

pub best_none : (w s : List ℕ) → inputs_of w s ≡ Ok tt → roots_for w s ≡ [] → best_answer w s ≡ Ok None
unfolding best_answer
best_none w s a e = rw (a, e) refl

pub best_refused : (w s : List ℕ) (q : Refusal) → inputs_of w s ≡ Err q → best_answer w s ≡ Err q
unfolding best_answer
best_refused w s q a = rw a refl

-- an origin is the decision's, and a refusal the decision's
pub classify_is : (w s : List ℕ) (d : OriginDecision) → decision_answer w s ≡ Ok d → origin_only (decision_answer w s) ≡ Ok d.origin
classify_is w s d e = ap origin_only e

pub classify_refused : (w s : List ℕ) (r : Refusal) → decision_answer w s ≡ Err r → origin_only (decision_answer w s) ≡ Err r
classify_refused w s r e = ap origin_only e

-- the number of a yes or no is that of the list
pub has-numbers : (w s : List ℕ) → has_numbers (has_of w s) ≡ said_numbers (said_of w s)
unfolding has_of
has-numbers w s = by (said_of w s)
  where
    by : (x : Result (Unit {0}) Refusal) → has_numbers (has_by x (is_some (rows_given w s))) ≡ said_numbers x
    by (Ok _) = refl
    by (Err r) = refl
