-- What an entry gives: the refusal of word or sheet with nothing visited, or what the walk has collected; and what an answer says. The
-- proofs of the entries and of those above them cite these. Assumes nothing.
use Prim.Native.Nat.{ℕ}
use mathlib.Core.Bool.{Bool}
use mathlib.Core.Path.{◌≡◌, refl, sym, ap, ap₂, ◌∙◌}
use mathlib.Core.List.{List, [], ◌∷◌}
use Rattle.std.specs.Prelude.{Err, Ok, Result, Option, None, Some, slice_get}
use Rattle.std.specs.Option.{is_some as o_is_some}
use Rattle.arrayvec.specs.ArrayVec.{ArrayVec}
use Rattle.refusals.specs.declared.Refusal.{Refusal}
use Rattle.sheet.specs.Inputs.{inputs_of}
use Rattle.sheet.specs.Replies.{Ask, reply}
use Rattle.ranking.specs.Lists.{rows}
use Rattle.ranking.specs.declared.Reading.{Reading}
use Rattle.ranking.specs.declared.Classified.{Classified}
use Rattle.paths.specs.Visits.{visits_of}
use Rattle.analysis.specs.Answers.{collected, listed_rows, said_by, rows_by, said_of, rows_given, answer_by, answer_of, list_of, visits_by, visits_given, visits_in, visits_answer, best_by, best_of, is_some, has_by, has_kept, has_of}

module _ (w s : List ℕ) (list : Result (ArrayVec Classified) Refusal) (visits : ℕ) where
  abbrev pub Given : Type 0
  Given = (list ≡ answer_of w s) × (visits ≡ visits_given w s)

  -- a word or a sheet is refused
  pub refused : (r : Refusal) → inputs_of w s ≡ Err r → list ≡ Err r → visits ≡ 0 → Given
  unfolding answer_of said_of rows_given visits_given
  refused r e p v = (
    p ∙ ap (λ (i : Result (Unit {0}) Refusal). answer_by (said_by i (collected w s)) (rows_by i (listed_rows (reply s) w (collected w s)))) (sym e),
    v ∙ ap (λ (i : Result (Unit {0}) Refusal). visits_by i (visits_of (reply s) w)) (sym e),
  )

  -- both are accepted
  abbrev pub Listed : Type 0
  Listed = (list ≡ list_of (reply s) w (collected w s)) × (visits ≡ visits_of (reply s) w)

  pub listed : inputs_of w s ≡ Ok tt → list ≡ list_of (reply s) w (collected w s) → visits ≡ visits_of (reply s) w → Given
  unfolding answer_of said_of rows_given visits_given
  listed e p v = (
    p ∙ ap (λ (i : Result (Unit {0}) Refusal). answer_by (said_by i (collected w s)) (rows_by i (listed_rows (reply s) w (collected w s)))) (sym e),
    v ∙ ap (λ (i : Result (Unit {0}) Refusal). visits_by i (visits_of (reply s) w)) (sym e),
  )

-- what an answer says of word and sheet, and of the rows
module _ (w s : List ℕ) where
  pub answer-refused : (r : Refusal) → answer_of w s ≡ Err r → said_of w s ≡ Err r
  unfolding answer_of
  answer-refused r = by (said_of w s)
    where
      by : (x : Result (Unit {0}) Refusal) → answer_by x (rows_given w s) ≡ Err r → x ≡ Err r
      by (Ok _) e = cc
      by (Err q) e = cc

  pub answer-listed : (l : ArrayVec Classified) → answer_of w s ≡ Ok l → (said_of w s ≡ Ok tt) × (l.items ≡ rows_given w s)
  unfolding answer_of
  answer-listed l = by (said_of w s)
    where
      by : (x : Result (Unit {0}) Refusal) → answer_by x (rows_given w s) ≡ Ok l → (x ≡ Ok tt) × (l.items ≡ rows_given w s)
      by (Ok _) e = (refl, cc)
      by (Err q) e = cc

  pub best-listed : (l : ArrayVec Classified) → answer_of w s ≡ Ok l → Ok (slice_get l.items 0) ≡ best_of w s
  unfolding best_of
  best-listed l e =
      let a = answer-listed l e in
      ap₂ (λ (x : Result (Unit {0}) Refusal) (rs : List Classified). best_by x (slice_get rs 0)) (sym a.0) a.1

  pub best-refused : (r : Refusal) → answer_of w s ≡ Err r → Err r ≡ best_of w s
  unfolding best_of
  best-refused r e = ap (λ (x : Result (Unit {0}) Refusal). best_by x (slice_get (rows_given w s) 0)) (sym (answer-refused r e))

  -- whether there is a reading, by the first one
  pub has-given : (o : Option Classified) → Ok o ≡ best_of w s → Ok (o_is_some o) ≡ has_of w s
  unfolding best_of has_of
  has-given o = by (said_of w s) (rows_given w s)
    where
      by : (x : Result (Unit {0}) Refusal) (rs : List Classified) → Ok o ≡ best_by x (slice_get rs 0) → Ok (o_is_some o) ≡ has_by x (is_some rs)
      by (Ok _) [] e = let q : o ≡ None = cc in rw q refl
      by (Ok _) (y ∷ ys) e = let q : o ≡ Some y = cc in rw q refl
      by (Err q) rs e = cc

  pub has-refused : (r : Refusal) → Err r ≡ best_of w s → Err r ≡ has_of w s
  unfolding best_of has_of
  has-refused r = by (said_of w s) (rows_given w s)
    where
      by : (x : Result (Unit {0}) Refusal) (rs : List Classified) → Err r ≡ best_by x (slice_get rs 0) → Err r ≡ has_by x (is_some rs)
      by (Ok _) rs e = cc
      by (Err q) rs e = cc

  -- whether there is one, of what the walk has collected
  pub has_told : (r : Refusal) → inputs_of w s ≡ Err r → Err r ≡ has_of w s
  unfolding has_of said_of rows_given
  has_told r e = ap (λ (i : Result (Unit {0}) Refusal). has_by (said_by i (collected w s)) (is_some (rows_by i (listed_rows (reply s) w (collected w s))))) (sym e)

  pub has_asked : inputs_of w s ≡ Ok tt → has_kept (reply s) w (collected w s) ≡ has_of w s
  unfolding has_of said_of rows_given
  has_asked e = ap (λ (i : Result (Unit {0}) Refusal). has_by (said_by i (collected w s)) (is_some (rows_by i (listed_rows (reply s) w (collected w s))))) (sym e)

  -- the number of pieces visited
  pub visits_refused : (r : Refusal) → inputs_of w s ≡ Err r → Err r ≡ visits_answer w s
  unfolding visits_answer
  visits_refused r e = ap (λ (i : Result (Unit {0}) Refusal). visits_in i (visits_of (reply s) w)) (sym e)

  pub visits_counted : inputs_of w s ≡ Ok tt → Ok (visits_of (reply s) w) ≡ visits_answer w s
  unfolding visits_answer
  visits_counted e = ap (λ (i : Result (Unit {0}) Refusal). visits_in i (visits_of (reply s) w)) (sym e)

-- rows that are kept are rows that are given
pub kept_some : (ask : Ask) (w : List ℕ) (rs : List Reading) → ◌≡◌ {A = Result Bool Refusal} (Ok (o_is_some (slice_get rs 0))) (has_kept ask w (rows rs))
kept_some ask w [] = refl
kept_some ask w (r ∷ rs) = refl
