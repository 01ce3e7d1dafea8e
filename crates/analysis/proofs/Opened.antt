-- A piece that no prefix form can begin by its third byte has no prefix. The proofs of the walk over prefixes cite these. Assumes nothing.
use Prim.Native.Nat.{ℕ, zero, suc, ◌+◌, ◌<◌, ◌≤◌}
use native.Mathlib.Omega.{arith}
use mathlib.Core.Path.{◌≡◌, refl, sym, ap, ◌∙◌}
use mathlib.Core.Bool.{Bool, true, false, ◌&&◌}
use mathlib.Core.List.{List, [], ◌++◌}
use lib.ListN.{length, drop, get_or, length-append, get_or-append}
use lib.Dec.{leb, ltb}
use borrow.Author.Tests.{leb-true, le-ltb}
use Rattle.runs.specs.Runs.{begins_with}
use Rattle.runs.proofs.Begins.{begins-front, and_left, and_right}
use Rattle.tables.specs.Rows.{prefix_forms}
use Rattle.tables.proofs.Facts.{prefix_form_count}
use Rattle.tables.proofs.Tested.{every, at}
use Rattle.ranking.specs.declared.Reading.{Reading}
use Rattle.paths.specs.Chains.{all_forms, form_of}
use Rattle.paths.specs.Walk.{over_forms}
use Rattle.analysis.specs.Fronts.{opens_form, may_begin}
use Rattle.analysis.proofs.Turns.{no_remainder}

abbrev is_opened : ℕ → List ℕ → Bool
is_opened k t = leb 3 (length t) && opens_form (get_or t 2 0)

-- every form has three bytes, and a third byte that the test knows
opened : every is_opened 0 prefix_forms ≡ true
unfolding prefix_forms opens_form
opened = refl

module _ (row : ℕ) (h : row < all_forms) where
  form-opened : is_opened row (form_of row) ≡ true
  form-opened = at is_opened prefix_forms opened row [] (omega (arith, prefix_form_count))

  form_long : 3 ≤ length (form_of row)
  form_long = leb-true 3 (length (form_of row)) (and_left _ (opens_form (get_or (form_of row) 2 0)) form-opened)

  -- a piece that begins with a form passes the test
  begun : (piece : List ℕ) → begins_with (form_of row) piece ≡ true → may_begin piece ≡ true
  unfolding may_begin
  begun piece b =
      let e : piece ≡ form_of row ++ drop (length (form_of row)) piece = begins-front (form_of row) piece b in
      let third : get_or piece 2 0 ≡ get_or (form_of row) 2 0 =
      ap (λ (l : List ℕ). get_or l 2 0) e ∙ get_or-append (form_of row) (drop (length (form_of row)) piece) 0 2 (omega (arith, form_long)) in
      let whole : length piece ≡ length (form_of row) + length (drop (length (form_of row)) piece) =
      ap (λ (l : List ℕ). length l) e ∙ length-append (form_of row) (drop (length (form_of row)) piece) in
      let long : ltb (length piece) 3 ≡ false = le-ltb (length piece) 3 (omega (arith, whole, form_long)) in
      rw (long, third) (and_right (leb 3 (length (form_of row))) (opens_form (get_or (form_of row) 2 0)) form-opened)

  pub not_begun : (piece : List ℕ) → may_begin piece ≡ false → begins_with (form_of row) piece ≡ false
  not_begun piece e = by (begins_with (form_of row) piece) refl
    where
      by : (x : Bool) → begins_with (form_of row) piece ≡ x → begins_with (form_of row) piece ≡ false
      by false b = b
      by true b = let z : true ≡ false = sym (begun piece b) ∙ e in cc

pub no-forms : (f : ℕ → List ℕ → List Reading) (piece : List ℕ) → may_begin piece ≡ false → (row n : ℕ) → row + n ≤ all_forms → over_forms f piece row n ≡ []
unfolding over_forms
no-forms f piece e row zero h = refl
no-forms f piece e row (suc n) h =
    rw (no_remainder piece (form_of row) (not_begun row (omega arith) piece e)) (no-forms f piece e (suc row) n (omega arith))
