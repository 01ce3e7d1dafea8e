-- Demand 3, of the core call. Its contract says that for a word w and a sheet s it gives what `said_of w s` says and the rows
-- `rows_given w s`. Here, for every accepted word and sheet: it is refused with 7 exactly where there are more than 64 readings; otherwise
-- the rows are every reading exactly once, in rank order, with its segments and score, and nothing besides; there are none exactly where
-- there is no reading; two sheets alike in their replies to the word's own questions give the same. What a reading is, is said without
-- a search in paths/specs. Assumes nothing.
use Rattle.std.specs.Prelude.{Err, Ok, Result}
use Prim.Native.Nat.{ℕ, suc, ◌≤◌, ◌<◌}
use native.Mathlib.Omega.{arith}
use mathlib.Core.Path.{◌≡◌, refl, sym, ap, subst, ◌∙◌}
use mathlib.Core.Logic.{◌↔◌}
use mathlib.Core.List.Memᴰ
use mathlib.Core.List.{List, [], ◌∷◌, map, Memᴰ}
use lib.ListN.{length, length-map}
use Rattle.text.specs.Characters.{chars}
use Rattle.text.specs.Word.{word_check}
use Rattle.sheet.specs.Lines.{sheet_check}
use Rattle.sheet.specs.Inputs.{inputs_of, numbers_given, lowest_numbers}
use Rattle.refusals.specs.declared.Refusal.{Refusal}
use Rattle.sheet.specs.Replies.{reply, Alike}
use Rattle.refusals.specs.Refusals.{number}
use Rattle.sheet.proofs.Refusals.{accepted-both, lowest, refused-low}
use Rattle.ranking.specs.Lists.{list_limit, Rows, rows, over}
use Rattle.ranking.specs.declared.Classified.{Classified}
use Rattle.paths.specs.Chains.{Route}
use Rattle.paths.specs.Readings.{Parts, parts_of, IsReading, row_of, classified}
use Rattle.paths.specs.Counted.{AtLeast}
use Rattle.paths.specs.Questions.{Own}
use Rattle.paths.specs.Walk.{word_walk}
use Rattle.paths.specs.Visits.{visits_of}
use Rattle.paths.proofs.Bounded.{row_count, all_fit}
use Rattle.paths.specs.Recomposed.{Recomposed, All}
use Rattle.paths.proofs.Promises as found
use Rattle.paths.proofs.Promises.{Listed}
use Rattle.runs.specs.Runs.{pick}
use lib.Dec.{eqb}
use borrow.Author.Tests.{ne_eqb}
use Rattle.analysis.specs.Answers.{collected, by_rows, listed_rows, said_by, rows_by, said_of, rows_given, visits_by, visits_given, visits_in, visits_answer, said_numbers}
use Rattle.analysis.proofs.Accepted.{word-parts}

abbrev BelowEight : Result (Unit {0}) Refusal → Type 0
BelowEight (Ok _) = Unit {0}
BelowEight (Err r) = number r < 8

-- an answer of the walk by its number, and the number by the answer
seven_over : (c : Rows) → said_numbers (by_rows c) ≡ 7 ∷ [] → c ≡ over
seven_over (rows rs) e = let z : ◌≡◌ {A = ℕ} 0 1 = ap length e in absurd (omega arith)
seven_over over e = refl

-- no list has more than 64 readings
pub rows_few : (w s : List ℕ) → length (rows_given w s) ≤ list_limit
unfolding rows_given
rows_few w s = by (inputs_of w s)
  where
    counted : (c : Rows) → length (listed_rows (reply s) w c) ≡ row_count c
    counted (rows rs) = length-map rs (classified (reply s) w)
    counted over = refl

    by : (i : Result (Unit {0}) Refusal) → length (rows_by i (listed_rows (reply s) w (collected w s))) ≤ list_limit
    by (Ok _) = let n = counted (collected w s) in let h = all_fit w (rows []) (word_walk (reply s) (chars w) w) (omega arith) in omega arith
    by (Err r) = omega arith

module _ (w s : List ℕ) (aw : word_check w ≡ Ok tt) (ah : sheet_check s ≡ Ok tt) where
  said_is : said_of w s ≡ by_rows (collected w s)
  unfolding said_of
  said_is = ap (λ (i : Result (Unit {0}) Refusal). said_by i (collected w s)) (accepted-both w s aw ah)

  rows_are : rows_given w s ≡ listed_rows (reply s) w (collected w s)
  unfolding rows_given
  rows_are = ap (λ (i : Result (Unit {0}) Refusal). rows_by i (listed_rows (reply s) w (collected w s))) (accepted-both w s aw ah)

  -- refused with 7 exactly where the strip rules allow and the sheet supports more than 64 readings
  pub seven_exactly : (said_numbers (said_of w s) ≡ 7 ∷ []) ↔ AtLeast 65 (IsReading (reply s) w)
  seven_exactly = (
    (λ e. (found.over_exactly (reply s) w).0 (seven_over (collected w s) (ap said_numbers (sym said_is) ∙ e))),
    (λ m. ap said_numbers (said_is ∙ ap by_rows ((found.over_exactly (reply s) w).1 m))),
  )

  -- otherwise the list is given, and holds every reading exactly once, in rank order, with its segments, its score and its root's origin,
  -- source and confidence, and nothing besides
  pub all_listed : (AtLeast 65 (IsReading (reply s) w) → ⊥) → (said_of w s ≡ Ok tt) × Listed (reply s) w (rows_given w s)
  all_listed none =
      let l = found.listed (reply s) w (word-parts w aw).1 none in
      (said_is ∙ ap by_rows l.1, subst (Listed (reply s) w) (sym (rows_are ∙ ap (listed_rows (reply s) w) l.1)) l.2)

  -- where a list is given, there are not too many
  few : said_of w s ≡ Ok tt → AtLeast 65 (IsReading (reply s) w) → ⊥
  few e m = let z : ◌≡◌ {A = ℕ} 0 1 = ap length (ap said_numbers (sym e) ∙ seven_exactly.1 m) in absurd (omega arith)

  -- every reading of a list that is given puts the word back together
  pub all_recomposed : said_of w s ≡ Ok tt → All (λ (r : Classified). Recomposed w r.reading) (rows_given w s)
  all_recomposed e = found.recomposed (reply s) w (rows_given w s) (all_listed (few e)).1

  -- a list that is given is empty exactly where there is no reading
  pub empty_exactly : said_of w s ≡ Ok tt → (rows_given w s ≡ []) ↔ ((r : Parts) → IsReading (reply s) w r → ⊥)
  empty_exactly e =
      let l = (all_listed (few e)).1 in (
        (λ n r i. no_path l.paths i.0 (l.rows_are ∙ n) ((l.each i.0).1 i.1)),
        (λ u. sym l.rows_are ∙ none-there l.paths (λ p m. u (parts_of p) (p, (l.each p).0 m, refl))),
      )
    where
      no_path : (ps : List Route) (p : Route) → map (row_of (reply s) w) ps ≡ [] → Memᴰ p ps → ⊥
      no_path [] p n m = Memᴰ.not-nil m
      no_path (q ∷ ps) p n m = let z : ◌≡◌ {A = ℕ} (suc (length (map (row_of (reply s) w) ps))) 0 = ap length n in absurd (omega arith)

      none-there : (ps : List Route) → ((p : Route) → Memᴰ p ps → ⊥) → map (row_of (reply s) w) ps ≡ []
      none-there [] u = refl
      none-there (p ∷ ps) u = absurd (u p (Memᴰ.head refl))

-- two accepted sheets alike in their replies to the word's own questions give the same: the same list, in which each root has the same
-- origin, source and confidence, or 7 both times
pub same_answer : (s t w : List ℕ) → word_check w ≡ Ok tt → sheet_check s ≡ Ok tt → sheet_check t ≡ Ok tt
    → ((letter : ℕ) (name : List ℕ) → Own (reply s) w letter name → Alike s t letter name)
    → (said_of w s ≡ said_of w t) × (rows_given w s ≡ rows_given w t)
same_answer s t w aw ah bh h =
    let c : collected w s ≡ collected w t = found.same_answer s t w (word-parts w aw).1 h in (
      said_is w s aw ah ∙ ap by_rows c ∙ sym (said_is w t aw bh),
      rows_are w s aw ah ∙ by (collected w s) refl ∙ ap (listed_rows (reply t) w) c ∙ sym (rows_are w t aw bh),
    )
  where
    by : (x : Rows) → collected w s ≡ x → listed_rows (reply s) w x ≡ listed_rows (reply t) w x
    by (rows rs) e = found.same_origins s t w (word-parts w aw).1 h rs e
    by over e = refl

-- The pieces visited (document 02 (n)): those of an accepted word under an accepted sheet, also where the answer is 7.

module _ (w s : List ℕ) (aw : word_check w ≡ Ok tt) (ah : sheet_check s ≡ Ok tt) where
  pub visits_are : visits_given w s ≡ visits_of (reply s) w
  unfolding visits_given
  visits_are = ap (λ (i : Result (Unit {0}) Refusal). visits_by i (visits_of (reply s) w)) (accepted-both w s aw ah)

-- never more than 5,000, for any word and sheet
pub few_visits : (w s : List ℕ) → visits_given w s ≤ 5000
unfolding visits_given
few_visits w s = by (inputs_of w s)
  where
    by : (i : Result (Unit {0}) Refusal) → visits_by i (visits_of (reply s) w) ≤ 5000
    by (Ok _) = found.few_visits (reply s) w
    by (Err r) = omega arith

-- two accepted sheets alike in their replies to the word's own questions give the same number
pub same_visits : (s t w : List ℕ) → word_check w ≡ Ok tt → sheet_check s ≡ Ok tt → sheet_check t ≡ Ok tt
    → ((letter : ℕ) (name : List ℕ) → Own (reply s) w letter name → Alike s t letter name) → visits_given w s ≡ visits_given w t
same_visits s t w aw ah bh h = visits_are w s aw ah ∙ found.same_visits s t w (word-parts w aw).1 h ∙ sym (visits_are w t aw bh)

-- none where word or sheet is refused
pub refused_visits : (w s : List ℕ) (r : Refusal) → inputs_of w s ≡ Err r → visits_given w s ≡ 0
unfolding visits_given
refused_visits w s r e = ap (λ (i : Result (Unit {0}) Refusal). visits_by i (visits_of (reply s) w)) e

-- what is said of the list, and the number, as the number's own answer: only 7 is said beside a number
abbrev pub visits_said : Result (Unit {0}) Refusal → ℕ → Result ℕ Refusal
visits_said (Ok _) n = Ok n
visits_said (Err r) n = pick (eqb (number r) 7) (Ok n) (Err r)

pub visits-said : (w s : List ℕ) → visits_said (said_of w s) (visits_given w s) ≡ visits_answer w s
unfolding said_of visits_given visits_answer
visits-said w s = by (inputs_of w s) refl (collected w s)
  where
    by : (i : Result (Unit {0}) Refusal) → inputs_of w s ≡ i → (c : Rows) → visits_said (said_by i c) (visits_by i (visits_of (reply s) w)) ≡ visits_in i (visits_of (reply s) w)
    by (Ok _) p (rows rs) = refl
    by (Ok _) p over = refl
    by (Err r) p c = let k = refused-low w s r p in rw (ne_eqb (number r) 7 (λ e. omega arith))

-- a refused word or sheet: the lowest number that applies, and no rows
pub refused : (w s : List ℕ) (r : Refusal) → inputs_of w s ≡ Err r → (said_numbers (said_of w s) ≡ lowest_numbers w s) × (rows_given w s ≡ [])
unfolding said_of rows_given
refused w s r e = (
  ap (λ (i : Result (Unit {0}) Refusal). said_numbers (said_by i (collected w s))) e ∙ ap numbers_given (sym e) ∙ lowest w s,
  ap (λ (i : Result (Unit {0}) Refusal). rows_by i (listed_rows (reply s) w (collected w s))) e,
)

-- what is said instead of a list has one of the numbers 1 to 7
pub said-below : (w s : List ℕ) (r : Refusal) → said_of w s ≡ Err r → number r < 8
unfolding said_of
said-below w s r e = subst BelowEight e (by (inputs_of w s) refl (collected w s))
  where
    by : (i : Result (Unit {0}) Refusal) → inputs_of w s ≡ i → (c : Rows) → BelowEight (said_by i c)
    by (Ok _) p (rows rs) = tt
    by (Ok _) p over = omega arith
    by (Err q) p c = let k = refused-low w s q p in omega arith
