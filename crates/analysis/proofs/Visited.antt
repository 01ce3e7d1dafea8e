-- The number of the source's entries, as the walk counts it on its way. The proofs of the walk cite these. Assumes nothing.
use Prim.Native.Nat.{ℕ, zero, suc, ◌+◌, ◌*◌, ◌<◌, ◌≤◌}
use native.Mathlib.Omega.{arith}
use mathlib.Core.Path.{◌≡◌, refl, sym, ap, ap₂, ◌∙◌}
use mathlib.Core.Bool.{Bool, true, false}
use mathlib.Core.List.{List, [], ◌∷◌}
use lib.ListN.{length, drop, get_or}
use lib.Dec.{eqb}
use borrow.Author.Tests.{ne_eqb}
use Rattle.runs.specs.Runs.{pick, begins_with, ends_in}
use Rattle.tables.specs.Rows.{prefix_forms}
use Rattle.tables.specs.Tables.{affixes}
use Rattle.tables.proofs.Facts.{prefix_form_count}
use Rattle.strips.specs.Suffix.{plain, shared, remainders}
use Rattle.strips.specs.Prefix.{prefix_remainder}
use Rattle.sheet.specs.Replies.{Ask}
use Rattle.progressive.specs.Progressive.{is_progressive}
use Rattle.paths.specs.Chains.{all_forms, form_of, rows_after}
use Rattle.paths.specs.Visits.{total, prefix_visits, entry, visits_of}
use Rattle.paths.specs.Weighed.{times_after, entries_at, total_rows, row_weighed, weighed}
use Rattle.paths.proofs.Totals.{total-none, total-one, total-append, total_zero, total_next, total-end}
use Rattle.paths.proofs.Few.{prefix_one, forms_most}
use Rattle.paths.proofs.Weighed.{weighed_is}
use Rattle.analysis.specs.Fronts.{may_begin}
use Rattle.analysis.proofs.Turns.{no_remainder}
use Rattle.analysis.proofs.Strips.{no_plain, no_shared}
use Rattle.analysis.proofs.Opened.{not_begun}

-- what is counted for what a form leaves
module _ (g : List ℕ → ℕ) (piece form : List ℕ) where
  pub left-none : prefix_remainder piece form ≡ [] → 0 ≡ total g (prefix_remainder piece form)
  left-none e = sym (ap (total g) e ∙ total-none g)

  pub left_one : (left : List ℕ) (v : ℕ) → prefix_remainder piece form ≡ left ∷ [] → v ≡ g left → v ≡ total g (prefix_remainder piece form)
  left_one left v e q = q ∙ sym (ap (total g) e ∙ total-one g left)

-- a loop over forms: what is counted for all is what has been counted and what is to come
module _ (g : List ℕ → ℕ) (piece : List ℕ) (k v : ℕ) where
  abbrev pub each : List ℕ → ℕ
  each form = total g (prefix_remainder piece form)

  abbrev pub Counted : Type 0
  Counted = total each prefix_forms ≡ v + total each (drop k prefix_forms)

  pub visits_turn : (r : ℕ) → k < all_forms → Counted → r ≡ total g (prefix_remainder piece (form_of k))
      → total each prefix_forms ≡ (v + r) + total each (drop (k + 1) prefix_forms)
  visits_turn r h e q = let n = total_next each k prefix_forms (omega (arith, prefix_form_count)) in omega arith

  pub visits_pass : k < all_forms → Counted → begins_with (form_of k) piece ≡ false
      → total each prefix_forms ≡ v + total each (drop (k + 1) prefix_forms)
  visits_pass h e b =
      let n = total_next each k prefix_forms (omega (arith, prefix_form_count)) in
      let z = left-none g piece (form_of k) (no_remainder piece (form_of k) b) in
      omega arith

  pub visits_end : all_forms ≤ k → Counted → v ≡ total each prefix_forms
  visits_end h e = let n = total-end each k prefix_forms (omega (arith, prefix_form_count)) in omega arith

-- at most 2 with one prefix more, and 6 with two
pub second_few : (ask : Ask) (piece : List ℕ) → total (λ form. total (prefix_visits 0 ask) (prefix_remainder piece form)) prefix_forms ≤ 2
unfolding prefix_visits
second_few ask piece = forms_most (prefix_visits 0 ask) 1 (λ t. omega arith) piece

pub first-few : (ask : Ask) (piece : List ℕ) → total (λ form. total (prefix_visits 1 ask) (prefix_remainder piece form)) prefix_forms ≤ 6
first-few ask piece = forms_most (prefix_visits 1 ask) 3 (prefix_one ask) piece

-- the prefix walk at a piece: alone, where it is a progressive form or no form can begin it; else with what its forms leave
module _ (d : ℕ) (ask : Ask) (piece : List ℕ) where
  pub prefix_none : is_progressive ask piece ≡ true → 1 ≡ prefix_visits (suc d) ask piece
  unfolding prefix_visits
  prefix_none e = rw e

  pub prefix_bare : may_begin piece ≡ false → 1 ≡ prefix_visits (suc d) ask piece
  unfolding prefix_visits
  prefix_bare e =
      let z : total (λ form. total (prefix_visits d ask) (prefix_remainder piece form)) prefix_forms ≡ 0 =
      total_zero _ prefix_forms (λ k h. sym (left-none (prefix_visits d ask) piece (form_of k) (no_remainder piece (form_of k) (not_begun k (omega (arith, prefix_form_count)) piece e)))) in
      rw z (by (is_progressive ask piece))
    where
      by : (b : Bool) → 1 ≡ 1 + pick b 0 0
      by true = refl
      by false = refl

  pub prefix_some : (v : ℕ) → is_progressive ask piece ≡ false → v ≡ total (λ form. total (prefix_visits d ask) (prefix_remainder piece form)) prefix_forms
      → 1 + v ≡ prefix_visits (suc d) ask piece
  unfolding prefix_visits
  prefix_some v e q = rw (e, q)

pub prefix_last : (ask : Ask) (piece : List ℕ) → 1 ≡ prefix_visits 0 ask piece
unfolding prefix_visits
prefix_last ask piece = refl

-- what a row adds
module _ (deeper : ℕ → ℕ → List ℕ → ℕ) (t : ℕ) (piece : List ℕ) (k : ℕ) where
  abbrev text : List ℕ
  text = get_or affixes k []

  -- no remainder, one, or two
  pub row_zero : plain piece text ≡ [] → shared piece text ≡ [] → 0 ≡ row_weighed deeper t piece k
  unfolding row_weighed remainders
  row_zero p q = rw (p, q) (sym (total-none (deeper (rows_after k) (times_after t k))))

  module _ (rows times : ℕ) (er : rows ≡ rows_after k) (et : times ≡ times_after t k) (left : List ℕ) (v : ℕ) (p : plain piece text ≡ left ∷ [])
      (e : v ≡ deeper rows times left) where
    pub row_one : shared piece text ≡ [] → v ≡ row_weighed deeper t piece k
    unfolding row_weighed remainders
    row_one q = rw (p, q) (e ∙ ap₂ (λ (m n : ℕ). deeper m n left) er et ∙ sym (total-one (deeper (rows_after k) (times_after t k)) left))

    pub row_two : (other : List ℕ) (u : ℕ) → shared piece text ≡ other ∷ [] → u ≡ deeper rows times other → v + u ≡ row_weighed deeper t piece k
    unfolding row_weighed remainders
    row_two other u q f =
        rw (p, q)
        (ap₂ (λ (m n : ℕ). m + n)
        (e ∙ ap₂ (λ (m n : ℕ). deeper m n left) er et ∙ sym (total-one (deeper (rows_after k) (times_after t k)) left))
        (f ∙ ap₂ (λ (m n : ℕ). deeper m n other) er et ∙ sym (total-one (deeper (rows_after k) (times_after t k)) other))
        ∙ sym (total-append (deeper (rows_after k) (times_after t k)) (left ∷ []) (other ∷ [])))

  -- a piece that does not end in the text
  pub row_zero_ends : ends_in text piece ≡ false → row_weighed deeper t piece k ≡ 0
  row_zero_ends e = sym (row_zero (no_plain piece text e) (no_shared piece text e))

-- a piece: counted as often as strips lead to it, where it is not stripped; else as often as it is entered, and with its rows
module _ (ask : Ask) (rows t : ℕ) (piece : List ℕ) (n : ℕ) (e : n ≡ prefix_visits 2 ask piece) where
  whole : 1 + n ≡ entry ask piece
  unfolding entry
  whole = ap (λ (m : ℕ). 1 + m) e

  pub piece_stopped : (v d : ℕ) → is_progressive ask piece ≡ true → v ≡ t * (1 + n) → v ≡ weighed d ask rows t piece
  unfolding weighed
  piece_stopped v zero p q = q ∙ ap (λ (m : ℕ). t * m) whole
  piece_stopped v (suc d) p q = rw p (q ∙ ap (λ (m : ℕ). t * m) whole)

  pub piece_deepest : (v d : ℕ) → d ≡ 0 → v ≡ t * (1 + n) → v ≡ weighed d ask rows t piece
  unfolding weighed
  piece_deepest v d p q = rw p (q ∙ ap (λ (m : ℕ). t * m) whole)

  pub piece_begun : (v m d : ℕ) → is_progressive ask piece ≡ false → m ≡ entries_at rows t → v ≡ m * (1 + n)
      → weighed (suc d) ask rows t piece ≡ v + total_rows (row_weighed (weighed d ask) t piece) 0 rows
  unfolding weighed
  piece_begun v m d p q r =
      let h : v ≡ entries_at rows t * entry ask piece = r ∙ ap₂ (λ (a b : ℕ). a * b) q whole in
      rw (p, h)

-- a word
pub word_visits : (ask : Ask) (w : List ℕ) → pick (eqb (length w) 0) 0 (weighed 4 ask 25 1 w) ≡ visits_of ask w
unfolding visits_of
word_visits ask [] = refl
word_visits ask (b ∷ w) = rw (ne_eqb (suc (length w)) 0 (λ e. omega arith)) (weighed_is ask 4 (b ∷ w))
