-- Which rows match one piece: two forms begin one piece only where one begins the other, and two texts end one piece only where one
-- ends the other. Each fact is one computed test over every two rows. The bounds on readings and candidates cite these laws.
-- Assumes nothing.
use mathlib.Core.Path.{◌≡◌, refl, sym, ◌∙◌}
use mathlib.Core.Bool.{Bool, true, false, not, ◌&&◌, ◌||◌}
use mathlib.Core.List.{List, []}
use Prim.Native.Nat.{ℕ, ◌<◌}
use native.Mathlib.Nat.{lt_trans}
use native.Mathlib.Omega.{arith}
use lib.ListN.{length, get_or}
use lib.Dec.{eqb}
use borrow.Author.Tests.{eqb-true, not-true}
use Rattle.runs.specs.Runs.{begins_with, ends_in}
use Rattle.runs.proofs.Begins.{and_left, and_right}
use Rattle.tables.specs.Rows.{prefix_forms, plural_markers, case_markers, particles, suffixes, strip_suffixes}
use Rattle.tables.specs.Tables.{affixes}
use Rattle.tables.proofs.Compared.{both_begin, both_end}
use Rattle.tables.proofs.Tested.{every_two, at_two}

-- `inner` picks the rows that lie in an earlier row, and no row in which another lies
module _ (fits meets : List ℕ → List ℕ → Bool) (both : (a b s : List ℕ) → fits a s ≡ true → fits b s ≡ true → meets a b ≡ true) (inner : ℕ → Bool) where
  abbrev meeting : ℕ → ℕ → List ℕ → List ℕ → Bool
  meeting i j x y = not (meets x y) || (inner j && not (inner i))

  met : (i j : ℕ) (x y : List ℕ) → meeting i j x y ≡ true → meets x y ≡ true → (inner j ≡ true) × (inner i ≡ false)
  met i j x y e m =
      let z : (inner j && not (inner i)) ≡ true = rw m at e in
      (and_left (inner j) (not (inner i)) z, not-true (inner i) (and_right (inner j) (not (inner i)) z))

  two : (rows : List (List ℕ)) → every_two meeting 0 rows ≡ true → (s : List ℕ) (i j k : ℕ) → i < j → j < k → k < length rows
      → fits (get_or rows i []) s ≡ true → fits (get_or rows j []) s ≡ true → fits (get_or rows k []) s ≡ true → ⊥
  two rows e s i j k l m h p q r =
      let a = met i j (get_or rows i []) (get_or rows j []) (at_two meeting rows e i j [] l (lt_trans m h)) (both (get_or rows i []) (get_or rows j []) s p q) in
      let b = met j k (get_or rows j []) (get_or rows k []) (at_two meeting rows e j k [] m h) (both (get_or rows j []) (get_or rows k []) s q r) in
      let z : ◌≡◌ {A = Bool} true false = sym a.0 ∙ b.1 in
      let n : ◌≡◌ {A = ℕ} 0 1 = cc in
      omega arith

abbrev begin_one : List ℕ → List ℕ → Bool
begin_one x y = begins_with x y || begins_with y x

abbrev end-one : List ℕ → List ℕ → Bool
end-one x y = ends_in x y || ends_in y x

-- निः, प्र and अ
abbrev inner_prefix : ℕ → Bool
inner_prefix k = eqb k 21 || (eqb k 22 || eqb k 29)

-- at most two prefix rows match a piece
pub two_prefix_forms : (s : List ℕ) (i j k : ℕ) → i < j → j < k → k < 30 → begins_with (get_or prefix_forms i []) s ≡ true
    → begins_with (get_or prefix_forms j []) s ≡ true → begins_with (get_or prefix_forms k []) s ≡ true → ⊥
unfolding prefix_forms
two_prefix_forms = two begins_with begin_one both_begin inner_prefix prefix_forms refl

-- को and ी
abbrev inner_suffix : ℕ → Bool
inner_suffix k = eqb k 17 || eqb k 23

-- at most two rows of SUFFIXES match a piece
pub two_suffixes : (s : List ℕ) (i j k : ℕ) → i < j → j < k → k < 24 → ends_in (get_or suffixes i []) s ≡ true
    → ends_in (get_or suffixes j []) s ≡ true → ends_in (get_or suffixes k []) s ≡ true → ⊥
unfolding suffixes
two_suffixes = two ends_in end-one both_end inner_suffix suffixes refl

-- लाई, बाट, सँग, ले, को and मा
abbrev inner_strip : ℕ → Bool
inner_strip k = eqb k 13 || (eqb k 14 || (eqb k 15 || (eqb k 19 || (eqb k 20 || eqb k 21))))

-- at most two rows of STRIP_SUFFIXES match a piece
pub two_strip_suffixes : (s : List ℕ) (i j k : ℕ) → i < j → j < k → k < 22 → ends_in (get_or strip_suffixes i []) s ≡ true
    → ends_in (get_or strip_suffixes j []) s ≡ true → ends_in (get_or strip_suffixes k []) s ≡ true → ⊥
unfolding strip_suffixes
two_strip_suffixes = two ends_in end-one both_end inner_strip strip_suffixes refl

-- of the 25 texts only two match one piece: क्यारे and रे, both particles
pub affixes_meet : (s : List ℕ) (i j : ℕ) → i < j → j < 25 → ends_in (get_or affixes i []) s ≡ true → ends_in (get_or affixes j []) s ≡ true
    → (i ≡ 18) × (j ≡ 23)
unfolding affixes plural_markers case_markers particles
affixes_meet s i j l h p q =
    let x = get_or affixes i [] in
    let y = get_or affixes j [] in
    let e = at_two (λ i j x y. not (end-one x y) || (eqb i 18 && eqb j 23)) affixes refl i j [] l h in
    let z : (eqb i 18 && eqb j 23) ≡ true = rw (both_end x y s p q) at e in
    (eqb-true i 18 (and_left (eqb i 18) (eqb j 23) z), eqb-true j 23 (and_right (eqb i 18) (eqb j 23) z))
