-- Counting each piece once with its weight gives the number of the source's entries: `weighed_is`. And no such number comes near the
-- largest that the code can hold: `weighed-most`. Assumes nothing.
use Prim.Native.Nat.{ℕ, zero, suc, ◌+◌, ◌*◌, ◌<◌, ◌≤◌}
use native.Mathlib.Nat.{zero-add, le_trans, mul-le-mul, mul-le-mul_left}
use native.Mathlib.Omega.{arith}
use mathlib.Core.Path.{◌≡◌, sym, ap, ap₂, ◌∙◌}
use mathlib.Core.Bool.{Bool, true, false}
use mathlib.Core.List.{List, [], ◌∷◌}
use lib.ListN.{get_or}
use lib.Dec.{ltb}
use borrow.Author.Tests.{lt-ltb, le-ltb}
use Rattle.runs.specs.Runs.{pick, ends_in}
use Rattle.tables.specs.Rows.{particles, case_markers, plural_markers}
use Rattle.tables.specs.Tables.{affixes}
use Rattle.tables.proofs.Facts.{affix_plural, affix_case, affix_particle}
use Rattle.strips.specs.Suffix.{remainders}
use Rattle.sheet.specs.Replies.{Ask}
use Rattle.progressive.specs.Progressive.{is_progressive}
use Rattle.paths.specs.Chains.{rows_after}
use Rattle.paths.specs.Visits.{total, case_group, plural_group, support_groups, entry, suffix_visits}
use Rattle.paths.specs.Weighed.{times_after, entries_at, total_rows, row_weighed, weighed}
use Rattle.paths.proofs.Totals.{total_same, total-add, rows_split, rows_table, rows-each}
use Rattle.paths.proofs.Few.{plural_count, case_count, particle_count, text_most, entry_most}

-- what strips behind a row come to
row_plural : (t k : ℕ) → k < 2 → (rows_after k ≡ 0) × (times_after t k ≡ t)
row_plural t k h = let e = lt-ltb k 2 h in (rw e, rw e)

row-case : (t k : ℕ) → k < 16 → (rows_after (2 + k) ≡ 18) × (times_after t (2 + k) ≡ 2)
row-case t k h =
    let e = le-ltb (2 + k) 2 (omega arith) in
    let f = lt-ltb (2 + k) 18 (omega arith) in
    (rw e, rw (e, f))

row_particle : (t k : ℕ) → (rows_after (18 + k) ≡ 18) × (times_after t (18 + k) ≡ 1)
row_particle t k =
    let e = le-ltb (18 + k) 2 (omega arith) in
    let f = le-ltb (18 + k) 18 (omega arith) in
    (rw e, rw (e, f))

module _ (ask : Ask) where
  -- the number at a piece, by the strip that led to it: none, a particle, a case marker, a plural marker of a piece that is entered for
  -- plural markers once, or twice
  record Same (d : ℕ) : Type 0 where
    first : (p : List ℕ) → weighed d ask 25 1 p ≡ suffix_visits d ask support_groups p
    behind_particle : (p : List ℕ) → weighed d ask 18 1 p ≡ suffix_visits d ask (case_group ∷ plural_group ∷ []) p
    behind-case : (p : List ℕ) → weighed d ask 18 2 p ≡ suffix_visits d ask (case_group ∷ plural_group ∷ []) p + suffix_visits d ask (plural_group ∷ []) p
    once : (p : List ℕ) → weighed d ask 0 1 p ≡ 0 + suffix_visits d ask [] p
    twice : (p : List ℕ) → weighed d ask 0 2 p ≡ (0 + suffix_visits d ask [] p) + (0 + suffix_visits d ask [] p)

  module _ (d : ℕ) (s : Same d) (p : List ℕ) where
    row_is : (t row rows times : ℕ) (text : List ℕ) (g : List ℕ → ℕ) → (rows_after row ≡ rows) × (times_after t row ≡ times) → get_or affixes row [] ≡ text
        → ((left : List ℕ) → weighed d ask rows times left ≡ g left) → row_weighed (weighed d ask) t p row ≡ total g (remainders p text)
    unfolding row_weighed
    row_is t row rows times text g e q h = rw (e.0, e.1, q) (total_same (weighed d ask rows times) g (remainders p text) (λ left m. h left))

    abbrev last : List ℕ → ℕ
    last left = 0 + suffix_visits d ask [] left

    abbrev plurals : ℕ
    plurals = total (λ text. total last (remainders p text)) plural_markers

    abbrev cases : ℕ
    cases = total (λ text. total (λ left. suffix_visits d ask (case_group ∷ plural_group ∷ []) left + suffix_visits d ask (plural_group ∷ []) left) (remainders p text)) case_markers

    abbrev others : ℕ
    others = total (λ text. total (λ left. 0 + suffix_visits d ask (case_group ∷ plural_group ∷ []) left) (remainders p text)) particles

    abbrev under : (List ℕ → ℕ) → List ℕ → ℕ
    under g text = total g (remainders p text)

    plurals_once : total_rows (row_weighed (weighed d ask) 1 p) 0 2 ≡ plurals
    plurals_once = rows_table (row_weighed (weighed d ask) 1 p) (under last) 0 2 plural_markers plural_count
        (λ k h. ap (row_weighed (weighed d ask) 1 p) (zero-add k) ∙ row_is 1 k 0 1 _ last (row_plural 1 k h) (affix_plural k h) s.once)

    plurals_twice : total_rows (row_weighed (weighed d ask) 2 p) 0 2 ≡ plurals + plurals
    plurals_twice =
        rows_table (row_weighed (weighed d ask) 2 p) (under (λ left. last left + last left)) 0 2 plural_markers plural_count
        (λ k h. ap (row_weighed (weighed d ask) 2 p) (zero-add k) ∙ row_is 2 k 0 2 _ (λ left. last left + last left) (row_plural 2 k h) (affix_plural k h) s.twice)
        ∙ total_same (under (λ left. last left + last left)) (λ text. under last text + under last text) plural_markers (λ text m. total-add last last (remainders p text))
        ∙ total-add (under last) (under last) plural_markers

    cases_are : (t : ℕ) → total_rows (row_weighed (weighed d ask) t p) 2 16 ≡ cases
    cases_are t = rows_table (row_weighed (weighed d ask) t p) _ 2 16 case_markers case_count
        (λ k h. row_is t (2 + k) 18 2 _ _ (row-case t k h) (affix_case k h) s.behind-case)

    others_are : total_rows (row_weighed (weighed d ask) 1 p) 18 7 ≡ others
    others_are = rows_table (row_weighed (weighed d ask) 1 p) (under (λ left. 0 + suffix_visits d ask (case_group ∷ plural_group ∷ []) left)) 18 7 particles particle_count
        (λ k h. row_is 1 (18 + k) 18 1 _ (λ left. 0 + suffix_visits d ask (case_group ∷ plural_group ∷ []) left) (row_particle 1 k) (affix_particle k) (λ left. s.behind_particle left ∙ sym (zero-add _)))

    -- the rows of two groups, and of three
    two_groups : (t : ℕ) → total_rows (row_weighed (weighed d ask) t p) 0 18 ≡ total_rows (row_weighed (weighed d ask) t p) 0 2 + cases
    two_groups t = rows_split (row_weighed (weighed d ask) t p) 0 2 16 ∙ ap (λ (n : ℕ). total_rows (row_weighed (weighed d ask) t p) 0 2 + n) (cases_are t)

    three_groups : total_rows (row_weighed (weighed d ask) 1 p) 0 25 ≡ plurals + cases + others
    three_groups =
        rows_split (row_weighed (weighed d ask) 1 p) 0 18 7
        ∙ ap₂ (λ (m n : ℕ). m + n) (two_groups 1 ∙ ap (λ (n : ℕ). n + cases) plurals_once) others_are

    -- the number at the piece, where it is stripped and where it is not
    at_first_lem : weighed (suc d) ask 25 1 p ≡ suffix_visits (suc d) ask support_groups p
    unfolding weighed suffix_visits
    at_first_lem = by (is_progressive ask p)
      where
        by : (b : Bool) → pick b (1 * entry ask p) (4 * entry ask p + total_rows (row_weighed (weighed d ask) 1 p) 0 25)
            ≡ entry ask p + pick b 0 ((entry ask p + pick b 0 ((entry ask p + pick b 0 (entry ask p + plurals)) + cases)) + others)
        by true = omega arith
        by false = omega (arith, three_groups)

    at_particle : weighed (suc d) ask 18 1 p ≡ suffix_visits (suc d) ask (case_group ∷ plural_group ∷ []) p
    unfolding weighed suffix_visits
    at_particle = by (is_progressive ask p)
      where
        by : (b : Bool) → pick b (1 * entry ask p) (3 * entry ask p + total_rows (row_weighed (weighed d ask) 1 p) 0 18)
            ≡ entry ask p + pick b 0 ((entry ask p + pick b 0 (entry ask p + plurals)) + cases)
        by true = omega arith
        by false = omega (arith, two_groups 1, plurals_once)

    at_case : weighed (suc d) ask 18 2 p ≡ suffix_visits (suc d) ask (case_group ∷ plural_group ∷ []) p + suffix_visits (suc d) ask (plural_group ∷ []) p
    unfolding weighed suffix_visits
    at_case = by (is_progressive ask p)
      where
        by : (b : Bool) → pick b (2 * entry ask p) (5 * entry ask p + total_rows (row_weighed (weighed d ask) 2 p) 0 18)
            ≡ (entry ask p + pick b 0 ((entry ask p + pick b 0 (entry ask p + plurals)) + cases)) + (entry ask p + pick b 0 (entry ask p + plurals))
        by true = omega arith
        by false = omega (arith, two_groups 2, plurals_twice)

    at_once : weighed (suc d) ask 0 1 p ≡ last p
    unfolding weighed suffix_visits total_rows
    at_once = by (is_progressive ask p)
      where
        by : (b : Bool) → pick b (1 * entry ask p) (1 * entry ask p + 0) ≡ 0 + entry ask p
        by true = omega arith
        by false = omega arith

    at_twice : weighed (suc d) ask 0 2 p ≡ last p + last p
    unfolding weighed suffix_visits total_rows
    at_twice = by (is_progressive ask p)
      where
        by : (b : Bool) → pick b (2 * entry ask p) (2 * entry ask p + 0) ≡ (0 + entry ask p) + (0 + entry ask p)
        by true = omega arith
        by false = omega arith

  same : (d : ℕ) → Same d
  unfolding weighed suffix_visits
  same zero = record {
    first = λ p. omega arith;
    behind_particle = λ p. omega arith;
    behind-case = λ p. omega arith;
    once = λ p. omega arith;
    twice = λ p. omega arith;
  }
  same (suc d) = record {
    first = at_first_lem d (same d);
    behind_particle = at_particle d (same d);
    behind-case = at_case d (same d);
    once = at_once d (same d);
    twice = at_twice d (same d);
  }

  -- a word's number
  pub weighed_is : (d : ℕ) (w : List ℕ) → weighed d ask 25 1 w ≡ suffix_visits d ask support_groups w
  weighed_is d = (same d).first

-- How large it can be where strips led to a piece at most twice, without a look at the tables: enough for the code's sums.

abbrev pub weighed_most : ℕ → ℕ
weighed_most zero = 16
weighed_most (suc d) = 48 + 2 * weighed_most d * 25

times_few : (t row : ℕ) → t ≤ 2 → times_after t row ≤ 2
times_few t row h = by (ltb row 2) (ltb row 18)
  where
    by : (a b : Bool) → pick a t (pick b 2 1) ≤ 2
    by true b = h
    by false true = omega arith
    by false false = omega arith

pub entries_few : (rows t : ℕ) → t ≤ 2 → entries_at rows t ≤ 6
entries_few rows t h = by (ltb 18 rows) (ltb 0 rows)
  where
    by : (a b : Bool) → pick a (2 * t + 2) (pick b (2 * t + 1) t) ≤ 6
    by true b = omega arith
    by false true = omega arith
    by false false = omega arith

picked : (b : Bool) (m n k : ℕ) → m ≤ k → n ≤ k → pick b m n ≤ k
picked true m n k h l = h
picked false m n k h l = l

module _ (ask : Ask) where
  row_most : (deeper : ℕ → ℕ → List ℕ → ℕ) (m t : ℕ) (p : List ℕ) (row : ℕ) → ((rows times : ℕ) (left : List ℕ) → rows ≤ 25 → times ≤ 2 → deeper rows times left ≤ m)
      → t ≤ 2 → row_weighed deeper t p row ≤ 2 * m
  unfolding row_weighed
  row_most deeper m t p row h k =
      let r : rows_after row ≤ 25 = picked (ltb row 2) 0 18 25 (omega arith) (omega arith) in
      let e = text_most (deeper (rows_after row) (times_after t row)) m (λ left. h _ _ left r (times_few t row k)) p (get_or affixes row []) in
      le_trans e (picked (ends_in (get_or affixes row []) p) (2 * m) 0 (2 * m) (omega arith) (omega arith))

  pub weighed-most : (d rows t : ℕ) (p : List ℕ) → rows ≤ 25 → t ≤ 2 → weighed d ask rows t p ≤ weighed_most d
  unfolding weighed
  weighed-most zero rows t p h k = mul-le-mul k (entry_most ask p)
  weighed-most (suc d) rows t p h k =
      let a : t * entry ask p ≤ 16 = mul-le-mul k (entry_most ask p) in
      let b : entries_at rows t * entry ask p ≤ 48 = mul-le-mul (entries_few rows t k) (entry_most ask p) in
      let c = rows-each (row_weighed (weighed d ask) t p) (2 * weighed_most d) (λ row. row_most (weighed d ask) (weighed_most d) t p row (λ rows times left u v. weighed-most d rows times left u v) k) 0 rows in
      let e = mul-le-mul_left (2 * weighed_most d) h in
      picked (is_progressive ask p) (t * entry ask p) (entries_at rows t * entry ask p + total_rows (row_weighed (weighed d ask) t p) 0 rows) _ (omega arith) (omega arith)

  -- so no number at a piece comes near the largest that the code can hold
  pub weighed-fits : (d rows t : ℕ) (p : List ℕ) → d ≤ 4 → rows ≤ 25 → t ≤ 2 → weighed d ask rows t p ≤ 200000000
  weighed-fits zero rows t p k h l = let e = weighed-most 0 rows t p h l in omega arith
  weighed-fits (suc zero) rows t p k h l = let e = weighed-most 1 rows t p h l in omega arith
  weighed-fits (suc (suc zero)) rows t p k h l = let e = weighed-most 2 rows t p h l in omega arith
  weighed-fits (suc (suc (suc zero))) rows t p k h l = let e = weighed-most 3 rows t p h l in omega arith
  weighed-fits (suc (suc (suc (suc zero)))) rows t p k h l = let e = weighed-most 4 rows t p h l in omega arith
  weighed-fits (suc (suc (suc (suc (suc d))))) rows t p k h l = absurd (omega arith)
