-- Laws of `cmp` and `same_text`: an order by bytes, of which equal runs are the same run. Searches and the check of a sheet's
-- ascent cite them. Assumes nothing.
use mathlib.Core.Path.{◌≡◌, refl, sym, ap, ◌∙◌}
use mathlib.Core.Bool.{Bool, true, false}
use mathlib.Core.List.{List, [], ◌∷◌}
use Prim.Native.Nat.{ℕ, ◌<◌, ◌≤◌}
use native.Mathlib.Nat.{le_antisymm}
use native.Mathlib.Omega.{arith}
use lib.Dec.{eqb, ltb}
use borrow.Author.Tests.{ltb-true, ltb-false, lt-ltb, le-ltb, eq-eqb, ne_eqb}
use Rattle.runs.specs.Runs.{pick, same_text, cmp}
use Rattle.std.specs.Ordering.{nat_cmp, ordering_then}
use Rattle.std.specs.Cmp.{nat_cmp_is}
use Rattle.std.specs.Cmp.Lexicographic.{slice_cmp}
use Rattle.std.specs.declared.cmp.Ordering.{Ordering}
use Rattle.std.specs.declared.cmp.Ordering.TheVariants.{Less, Equal, Greater}

-- what `cmp` says of x ∷ xs and y ∷ ys where it says r of xs and ys
abbrev pub step : ℕ → ℕ → Ordering → Ordering
step x y r = pick (ltb x y) Less (pick (ltb y x) Greater r)

pub step_less : (x y : ℕ) (r : Ordering) → x < y → step x y r ≡ Less
step_less x y r h = rw (lt-ltb x y h)

pub step_greater : (x y : ℕ) (r : Ordering) → y < x → step x y r ≡ Greater
step_greater x y r h = let l : y ≤ x = omega arith in rw (le-ltb x y l, lt-ltb y x h)

pub step_same : (x y : ℕ) (r : Ordering) → x ≡ y → step x y r ≡ r
step_same x y r e = let k : y ≤ x = omega arith in let l : x ≤ y = omega arith in rw (le-ltb x y k, le-ltb y x l)

-- the three ways in which two numbers stand
pub data Stand (x y : ℕ) : Type 0 where
  below : x < y → Stand x y
  above : y < x → Stand x y
  alike : x ≡ y → Stand x y

pub stand : (x y : ℕ) → Stand x y
stand x y = go (ltb x y) (ltb y x) refl refl
  where
    go : (b c : Bool) → ltb x y ≡ b → ltb y x ≡ c → Stand x y
    go true c p q = below (ltb-true x y p)
    go false true p q = above (ltb-true y x q)
    go false false p q = alike (le_antisymm (ltb-false y x q) (ltb-false x y p))

-- an answer of `step`, by the way in which the two numbers stand
pub by_head : {P : Type 0} (x y : ℕ) (r o : Ordering) → step x y r ≡ o →
    (x < y → Less ≡ o → P) → (y < x → Greater ≡ o → P) → (x ≡ y → r ≡ o → P) → P
by_head {P} x y r o e l g s = go (stand x y)
  where
    go : Stand x y → P
    go (below h) = l h (sym (step_less x y r h) ∙ e)
    go (above h) = g h (sym (step_greater x y r h) ∙ e)
    go (alike h) = s h (sym (step_same x y r h) ∙ e)

pub cmp_trans : (a b c : List ℕ) → cmp a b ≡ Less → cmp b c ≡ Less → cmp a c ≡ Less
cmp_trans [] [] c p q = q
cmp_trans [] (y ∷ ys) [] p q = cc
cmp_trans [] (y ∷ ys) (z ∷ zs) p q = refl
cmp_trans (x ∷ xs) [] c p q = cc
cmp_trans (x ∷ xs) (y ∷ ys) [] p q = cc
cmp_trans (x ∷ xs) (y ∷ ys) (z ∷ zs) p q =
    by_head x y (cmp xs ys) Less p
    (λ h _. by_head y z (cmp ys zs) Less q (λ k _. step_less x z _ (omega arith)) (λ k e. (cc)) (λ k _. step_less x z _ (omega arith)))
    (λ h e. (cc))
    (λ h e. by_head y z (cmp ys zs) Less q (λ k _. step_less x z _ (omega arith)) (λ k f. (cc))
    (λ k f. step_same x z _ (omega arith) ∙ cmp_trans xs ys zs e f))

-- the order as seen from the other side
abbrev pub turned : Ordering → Ordering
turned Less = Greater
turned Equal = Equal
turned Greater = Less

pub cmp_turned : (a b : List ℕ) → cmp b a ≡ turned (cmp a b)
cmp_turned [] [] = refl
cmp_turned [] (y ∷ ys) = refl
cmp_turned (x ∷ xs) [] = refl
cmp_turned (x ∷ xs) (y ∷ ys) =
    by_head x y (cmp xs ys) _ refl
    (λ h e. step_greater y x _ h ∙ ap turned e)
    (λ h e. step_less y x _ h ∙ ap turned e)
    (λ h e. step_same y x _ (sym h) ∙ cmp_turned xs ys ∙ ap turned e)

pub cmp_equal : (a b : List ℕ) → cmp a b ≡ Equal → a ≡ b
cmp_equal [] [] e = refl
cmp_equal [] (y ∷ ys) e = cc
cmp_equal (x ∷ xs) [] e = cc
cmp_equal (x ∷ xs) (y ∷ ys) e =
    by_head x y (cmp xs ys) Equal e (λ h f. (cc)) (λ h f. (cc)) (λ h f. let z = cmp_equal xs ys f in (cc))

pub cmp_refl : (a : List ℕ) → cmp a a ≡ Equal
cmp_refl [] = refl
cmp_refl (x ∷ xs) = step_same x x _ refl ∙ cmp_refl xs

abbrev pub is_equal : Ordering → Bool
is_equal Less = false
is_equal Equal = true
is_equal Greater = false

pub same_cmp : (a b : List ℕ) → same_text a b ≡ is_equal (cmp a b)
same_cmp [] [] = refl
same_cmp [] (y ∷ ys) = refl
same_cmp (x ∷ xs) [] = refl
same_cmp (x ∷ xs) (y ∷ ys) =
    by_head x y (cmp xs ys) _ refl
    (λ h e. let n : eqb x y ≡ false = ne_eqb x y (λ k. omega arith) in rw n (ap is_equal e))
    (λ h e. let n : eqb x y ≡ false = ne_eqb x y (λ k. omega arith) in rw n (ap is_equal e))
    (λ h e. let n : eqb x y ≡ true = eq-eqb x y h in rw n (same_cmp xs ys ∙ ap is_equal e))

pub same_refl : (a : List ℕ) → same_text a a ≡ true
same_refl a = same_cmp a a ∙ ap is_equal (cmp_refl a)

pub same_true : (a b : List ℕ) → same_text a b ≡ true → a ≡ b
same_true a b e = go (cmp a b) refl (sym (same_cmp a b) ∙ e)
  where
    go : (o : Ordering) → cmp a b ≡ o → is_equal o ≡ true → a ≡ b
    go Less p q = cc
    go Equal p q = cmp_equal a b p
    go Greater p q = cc

-- the library's order of lists of numbers
pub compared : (a b : List ℕ) → slice_cmp nat_cmp a b ≡ cmp a b
compared [] [] = refl
compared [] (y ∷ ys) = refl
compared (x ∷ xs) [] = refl
compared (x ∷ xs) (y ∷ ys) = go (stand x y) (compared xs ys)
  where
    go : Stand x y → slice_cmp nat_cmp xs ys ≡ cmp xs ys → ordering_then (nat_cmp x y) (slice_cmp nat_cmp xs ys) ≡ step x y (cmp xs ys)
    go (below h) e = ap (λ (o : Ordering). ordering_then o (slice_cmp nat_cmp xs ys)) (sym (nat_cmp_is x y Less h)) ∙ sym (step_less x y _ h)
    go (above h) e = ap (λ (o : Ordering). ordering_then o (slice_cmp nat_cmp xs ys)) (sym (nat_cmp_is x y Greater h)) ∙ sym (step_greater x y _ h)
    go (alike h) e = ap (λ (o : Ordering). ordering_then o (slice_cmp nat_cmp xs ys)) (sym (nat_cmp_is x y Equal h)) ∙ e ∙ sym (step_same x y _ h)

-- a question in two parts: what the first leaves open the second decides
abbrev pub and_then : Ordering → Ordering → Ordering
and_then Less r = Less
and_then Equal r = r
and_then Greater r = Greater

pub step_then : (x y : ℕ) (r s : Ordering) → step x y (and_then r s) ≡ and_then (step x y r) s
step_then x y r s = go (ltb x y) (ltb y x)
  where
    go : (b c : Bool) → pick b Less (pick c Greater (and_then r s)) ≡ and_then (pick b Less (pick c Greater r)) s
    go true c = refl
    go false true = refl
    go false false = refl
