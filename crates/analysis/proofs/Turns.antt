-- One row of a loop over rows, and what it adds. The proofs of the loops of the walk cite these. Assumes nothing.
use Prim.Native.Nat.{ℕ, suc, ◌+◌, ◌-◌, ◌<◌, ◌≤◌}
use native.Mathlib.Omega.{arith}
use native.Mathlib.Numerals.{add-one}
use mathlib.Core.Path.{◌≡◌, refl, sym, ap, ◌∙◌}
use mathlib.Core.Bool.{true, false}
use mathlib.Core.List.{List, [], ◌∷◌, ◌++◌, append-nil}
use Rattle.runs.specs.Runs.{begins_with}
use Rattle.strips.specs.Prefix.{leaves, prefix_remainder}
use Rattle.ranking.specs.Lists.{Rows, plus, plus_all}
use Rattle.ranking.specs.declared.Reading.{Reading}
use Rattle.paths.specs.Chains.{all_forms, form_of}
use Rattle.sheet.specs.Replies.{Ask}
use Rattle.progressive.specs.Progressive.{is_progressive}
use Rattle.paths.specs.declared.Chain.{Chain}
use Rattle.paths.specs.Walk.{root_walk, on_left, over_forms, second_walk, stem_walk}

pub plus-append : (w : List ℕ) (a : Rows) (xs ys : List Reading) → plus_all w a (xs ++ ys) ≡ plus_all w (plus_all w a xs) ys
unfolding plus_all
plus-append w a [] ys = refl
plus-append w a (x ∷ xs) ys = plus-append w (plus w a x) xs ys

plus_none : (w : List ℕ) (a : Rows) → plus_all w a [] ≡ a
unfolding plus_all
plus_none w a = refl

-- a piece that does not begin with the form has no remainder
pub no_remainder : (piece form : List ℕ) → begins_with form piece ≡ false → prefix_remainder piece form ≡ []
unfolding prefix_remainder leaves
no_remainder piece form e = rw e

module _ (w : List ℕ) (f : ℕ → List ℕ → List Reading) (piece : List ℕ) (k n : ℕ) (a : Rows) where
  pub form_turn : (g : Rows) → k < n → g ≡ plus_all w a (on_left (f k) (prefix_remainder piece (form_of k)))
      → plus_all w a (over_forms f piece k (n - k)) ≡ plus_all w g (over_forms f piece (k + 1) (n - (k + 1)))
  unfolding over_forms
  form_turn g h e =
      let q : n - k ≡ suc (n - (k + 1)) = omega arith in
      rw (q, add-one) (plus-append w a (on_left (f k) (prefix_remainder piece (form_of k))) (over_forms f piece (suc k) (n - suc k)) ∙ ap (λ (r : Rows). plus_all w r (over_forms f piece (suc k) (n - suc k))) (sym e))

  -- a piece that does not begin with the form is left as it is
  pub form_pass : k < n → begins_with (form_of k) piece ≡ false → plus_all w a (over_forms f piece k (n - k)) ≡ plus_all w a (over_forms f piece (k + 1) (n - (k + 1)))
  form_pass h e = form_turn a h none
    where
      none : a ≡ plus_all w a (on_left (f k) (prefix_remainder piece (form_of k)))
      none = sym (ap (λ (l : List (List ℕ)). plus_all w a (on_left (f k) l)) (no_remainder piece (form_of k) e) ∙ plus_none w a)

  pub form-end : n ≤ k → plus_all w a (over_forms f piece k (n - k)) ≡ a
  unfolding over_forms plus_all
  form-end h = let q : n - k ≡ 0 = omega arith in rw q

-- a prefix's own reading alone, where what it leaves is a progressive form; else with those of a second prefix
module _ (ask : Ask) (surface : ℕ) (c : Chain) (w stem : List ℕ) (first : ℕ) (left : List ℕ) (a g : Rows)
    (e : g ≡ plus_all w a (root_walk ask surface c stem (first ∷ []) left)) where
  pub second_none : is_progressive ask left ≡ true → g ≡ plus_all w a (second_walk ask surface c stem first left)
  unfolding second_walk
  second_none p = rw (p, append-nil) e

  -- where no form begins what is left, there is no second prefix
  pub second_bare : is_progressive ask left ≡ false → ((f : ℕ → List ℕ → List Reading) → over_forms f left 0 all_forms ≡ []) → g ≡ plus_all w a (second_walk ask surface c stem first left)
  unfolding second_walk
  second_bare p n = rw (p, n, append-nil) e

  pub second_some : (h : Rows) → is_progressive ask left ≡ false
      → h ≡ plus_all w g (over_forms (λ second rest. root_walk ask surface c stem (first ∷ second ∷ []) rest) left 0 all_forms) → h ≡ plus_all w a (second_walk ask surface c stem first left)
  unfolding second_walk
  second_some h p q =
      let deeper = over_forms (λ second rest. root_walk ask surface c stem (first ∷ second ∷ []) rest) left 0 all_forms in
      rw p (q ∙ ap (λ (r : Rows). plus_all w r deeper) e ∙ sym (plus-append w a (root_walk ask surface c stem (first ∷ []) left) deeper))

-- a stem's own reading alone, where it is a progressive form; else with those of its prefixes
module _ (ask : Ask) (surface : ℕ) (c : Chain) (w stem : List ℕ) (a g : Rows) (e : g ≡ plus_all w a (root_walk ask surface c stem [] stem)) where
  pub stem-none : is_progressive ask stem ≡ true → g ≡ plus_all w a (stem_walk ask surface c stem)
  unfolding stem_walk
  stem-none p = rw (p, append-nil) e

  pub stem-bare : is_progressive ask stem ≡ false → ((f : ℕ → List ℕ → List Reading) → over_forms f stem 0 all_forms ≡ []) → g ≡ plus_all w a (stem_walk ask surface c stem)
  unfolding stem_walk
  stem-bare p n = rw (p, n, append-nil) e

  pub stem-some : (h : Rows) → is_progressive ask stem ≡ false → h ≡ plus_all w g (over_forms (second_walk ask surface c stem) stem 0 all_forms) → h ≡ plus_all w a (stem_walk ask surface c stem)
  unfolding stem_walk
  stem-some h p q =
      let deeper = over_forms (second_walk ask surface c stem) stem 0 all_forms in
      rw p (q ∙ ap (λ (r : Rows). plus_all w r deeper) e ∙ sym (plus-append w a (root_walk ask surface c stem [] stem) deeper))
