-- The number of pieces visited never passes 3,712, so never 5,000: at most two prefix forms begin a piece, at most two particles, one case
-- marker and one plural marker end it, and each of them leaves at most two remainders. Assumes nothing.
use Prim.Native.Nat.{ℕ, suc, ◌+◌, ◌*◌, ◌≤◌}
use native.Mathlib.Nat.{mul-le-mul_left}
use native.Mathlib.Omega.{arith}
use mathlib.Core.Path.{◌≡◌, refl, ap, ◌∙◌}
use mathlib.Core.Bool.{Bool, true, false, ◌&&◌}
use mathlib.Core.List.{List, [], ◌∷◌, ◌++◌}
use lib.ListN.{length, get_or}
use lib.Dec.{leb, ltb}
use Rattle.runs.specs.Runs.{pick, begins_with, ends_in}
use Rattle.text.specs.Characters.{chars}
use Rattle.tables.specs.Rows.{prefix_forms, particles, case_markers, plural_markers}
use Rattle.tables.specs.Tables.{affixes}
use Rattle.tables.proofs.Facts.{prefix_form_count, affix_plural, affix_case, affix_particle}
use Rattle.tables.proofs.Matches.{two_prefix_forms, affixes_meet}
use Rattle.tables.proofs.Passing.{passing, one, two}
use Rattle.strips.specs.Suffix.{sheds, is_long, without, first_character, plain, shared, remainders}
use Rattle.strips.specs.Prefix.{leaves, least_after, after, prefix_remainder}
use Rattle.sheet.specs.Replies.{Ask}
use Rattle.progressive.specs.Progressive.{is_progressive}
use Rattle.paths.specs.Visits.{total, prefix_visits, Group, particle_group, case_group, plural_group, support_groups, entry, suffix_visits, visits_of}
use Rattle.paths.proofs.Totals.{total_passing}

-- the lengths of the three groups, and which of their rows end one piece

pub plural_count : length plural_markers ≡ 2
unfolding plural_markers
plural_count = refl

pub case_count : length case_markers ≡ 16
unfolding case_markers
case_count = refl

pub particle_count : length particles ≡ 7
unfolding particles
particle_count = refl

abbrev ends : List ℕ → List ℕ → Bool
ends piece t = ends_in t piece

module _ (piece : List ℕ) where
  ended : (row : ℕ) (t : List ℕ) → get_or affixes row [] ≡ t → ends_in t piece ≡ true → ends_in (get_or affixes row []) piece ≡ true
  ended row t e q = ap (λ (l : List ℕ). ends_in l piece) e ∙ q

  one_plural : passing (ends piece) [] plural_markers ≤ 1
  one_plural = one (ends piece) [] plural_markers (λ i j l m a b.
      let z = affixes_meet piece i j l (omega (arith, plural_count)) (ended i _ (affix_plural i (omega (arith, plural_count))) a) (ended j _ (affix_plural j (omega (arith, plural_count))) b) in
      omega (arith, z.0, plural_count))

  one-case : passing (ends piece) [] case_markers ≤ 1
  one-case = one (ends piece) [] case_markers (λ i j l m a b.
      let z = affixes_meet piece (2 + i) (2 + j) (omega arith) (omega (arith, case_count)) (ended (2 + i) _ (affix_case i (omega (arith, case_count))) a) (ended (2 + j) _ (affix_case j (omega (arith, case_count))) b) in
      omega (arith, z.0, case_count))

  two_particles : passing (ends piece) [] particles ≤ 2
  two_particles = two (ends piece) [] particles (λ i j k l m n a b c.
      let y = affixes_meet piece (18 + i) (18 + j) (omega arith) (omega (arith, particle_count)) (ended (18 + i) _ (affix_particle i) a) (ended (18 + j) _ (affix_particle j) b) in
      let z = affixes_meet piece (18 + j) (18 + k) (omega arith) (omega (arith, particle_count)) (ended (18 + j) _ (affix_particle j) b) (ended (18 + k) _ (affix_particle k) c) in
      omega (arith, y.1, z.0))

  two_forms : passing (λ (t : List ℕ). begins_with t piece) [] prefix_forms ≤ 2
  two_forms = two (λ (t : List ℕ). begins_with t piece) [] prefix_forms (λ i j k l m n. two_prefix_forms piece i j k l m (rw prefix_form_count at n))

-- what is counted under one form, and under one text
module _ (f : List ℕ → ℕ) (m : ℕ) (h : (t : List ℕ) → f t ≤ m) (piece : List ℕ) where
  form_most : (form : List ℕ) → total f (prefix_remainder piece form) ≤ pick (begins_with form piece) m 0
  unfolding prefix_remainder leaves total
  form_most form = by (begins_with form piece) (leb (least_after form) (chars (after piece form)))
    where
      by : (a b : Bool) → total f (pick (a && b) (after piece form ∷ []) []) ≤ pick a m 0
      by true true = let k = h (after piece form) in omega arith
      by true false = omega arith
      by false b = omega arith

  pub text_most : (text : List ℕ) → total f (remainders piece text) ≤ pick (ends_in text piece) (2 * m) 0
  unfolding remainders plain shared sheds total
  text_most text = by (ltb (length text) (length piece)) (ends_in text piece) (is_long text)
    where
      by : (a b c : Bool) → total f (pick (a && b) (without piece text ∷ []) [] ++ pick ((a && b) && c) ((without piece text ++ first_character text) ∷ []) [])
          ≤ pick b (2 * m) 0
      by true true true = let k = h (without piece text) in let l = h (without piece text ++ first_character text) in omega arith
      by true true false = let k = h (without piece text) in omega arith
      by true false c = omega arith
      by false true c = omega arith
      by false false c = omega arith

-- the prefix walk: 1, 3, 7

pub forms_most : (f : List ℕ → ℕ) (m : ℕ) → ((t : List ℕ) → f t ≤ m) → (piece : List ℕ)
    → total (λ form. total f (prefix_remainder piece form)) prefix_forms ≤ m * 2
forms_most f m h piece =
    let e = total_passing (λ form. total f (prefix_remainder piece form)) (λ (t : List ℕ). begins_with t piece) m (form_most f m h piece) prefix_forms in
    let k = mul-le-mul_left m (two_forms piece) in
    omega arith

picked : (b : Bool) (n m : ℕ) → n ≤ m → pick b 0 n ≤ m
picked true n m h = omega arith
picked false n m h = h

module _ (ask : Ask) where
  pub prefix_one : (piece : List ℕ) → prefix_visits 1 ask piece ≤ 3
  unfolding prefix_visits
  prefix_one piece = let e = picked (is_progressive ask piece) _ 2 (forms_most (prefix_visits 0 ask) 1 (λ t. omega arith) piece) in omega arith

  pub prefix_two : (piece : List ℕ) → prefix_visits 2 ask piece ≤ 7
  unfolding prefix_visits
  prefix_two piece = let e = picked (is_progressive ask piece) _ 6 (forms_most (prefix_visits 1 ask) 3 prefix_one piece) in omega arith

  pub entry_most : (piece : List ℕ) → entry ask piece ≤ 8
  unfolding entry
  entry_most piece = let e = prefix_two piece in omega arith

  -- the suffix walk: this entry, those from the next group on, and those of what each of at most `few` texts leaves, twice m each
  group_most : (d : ℕ) (g : Group) (gs : List Group) (piece : List ℕ) (n m few : ℕ) → suffix_visits (suc d) ask gs piece ≤ n
      → ((left : List ℕ) → pick g.repeatable (suffix_visits d ask (g ∷ gs) left) 0 + suffix_visits d ask gs left ≤ m)
      → passing (ends piece) [] g.items ≤ few
      → suffix_visits (suc d) ask (g ∷ gs) piece ≤ 8 + (n + 2 * m * few)
  unfolding suffix_visits
  group_most d g gs piece n m few h k c =
      let under : List ℕ → ℕ = λ left. pick g.repeatable (suffix_visits d ask (g ∷ gs) left) 0 + suffix_visits d ask gs left in
      let e = total_passing (λ text. total under (remainders piece text)) (ends piece) (2 * m) (text_most under m k piece) g.items in
      let l = mul-le-mul_left (2 * m) c in
      let b = entry_most piece in
      let p = picked (is_progressive ask piece) (suffix_visits (suc d) ask gs piece + total (λ text. total under (remainders piece text)) g.items) (n + 2 * m * few) (omega arith) in
      omega arith

  -- no group is left: 1 entry; no strip is left: 1
  none_left : (d : ℕ) (piece : List ℕ) → suffix_visits d ask [] piece ≤ 8
  unfolding suffix_visits
  none_left d piece = entry_most piece

  last_strip : (g : Group) (gs : List Group) (piece : List ℕ) → suffix_visits 0 ask (g ∷ gs) piece ≤ 8
  unfolding suffix_visits
  last_strip g gs piece = entry_most piece

  -- plural markers: 4
  plural_most : (d : ℕ) (piece : List ℕ) → suffix_visits (suc d) ask (plural_group ∷ []) piece ≤ 32
  plural_most d piece = group_most d plural_group [] piece 8 8 1 (none_left (suc d) piece) (λ left. let e = none_left d left in omega arith) (one_plural piece)

  -- case markers: 9, 31, 75 and 163 with 1 to 4 strips left
  case_most : (d : ℕ) (piece : List ℕ) (m n : ℕ) → ((left : List ℕ) → suffix_visits d ask (case_group ∷ plural_group ∷ []) left ≤ m)
      → ((left : List ℕ) → suffix_visits d ask (plural_group ∷ []) left ≤ n) → suffix_visits (suc d) ask (case_group ∷ plural_group ∷ []) piece ≤ 8 + (32 + 2 * (m + n) * 1)
  case_most d piece m n h k =
      group_most d case_group (plural_group ∷ []) piece 32 (m + n) 1 (plural_most d piece) (λ left. let a = h left in let b = k left in omega arith) (one-case piece)

  case-one : (piece : List ℕ) → suffix_visits 1 ask (case_group ∷ plural_group ∷ []) piece ≤ 72
  case-one piece = case_most 0 piece 8 8 (last_strip case_group (plural_group ∷ [])) (last_strip plural_group [])

  case_two : (piece : List ℕ) → suffix_visits 2 ask (case_group ∷ plural_group ∷ []) piece ≤ 248
  case_two piece = case_most 1 piece 72 32 case-one (plural_most 0)

  case_three : (piece : List ℕ) → suffix_visits 3 ask (case_group ∷ plural_group ∷ []) piece ≤ 600
  case_three piece = case_most 2 piece 248 32 case_two (plural_most 1)

  case_four : (piece : List ℕ) → suffix_visits 4 ask (case_group ∷ plural_group ∷ []) piece ≤ 1304
  case_four piece = case_most 3 piece 600 32 case_three (plural_most 2)

  -- particles: 464
  all_most : (piece : List ℕ) → suffix_visits 4 ask support_groups piece ≤ 3712
  all_most piece = group_most 3 particle_group (case_group ∷ plural_group ∷ []) piece 1304 600 2 (case_four piece) (λ left. let e = case_three left in omega arith) (two_particles piece)

  -- 464 entries of the suffix walk, each with at most 7 of the prefix walk
  pub visits_few : (w : List ℕ) → visits_of ask w ≤ 3712
  unfolding visits_of
  visits_few [] = omega arith
  visits_few (b ∷ w) = all_most (b ∷ w)
