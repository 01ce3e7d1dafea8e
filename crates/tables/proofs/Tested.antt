-- A rule of a table proved at all of its rows by one test that is computed: over each row, or over each two rows. Assumes nothing.
use mathlib.Core.Path.{◌≡◌, subst}
use mathlib.Core.Bool.{Bool, true, ◌&&◌}
use mathlib.Core.List.{List, [], ◌∷◌}
use Prim.Native.Nat.{ℕ, zero, suc, ◌+◌, ◌<◌}
use native.Mathlib.Nat.{add-zero, zero-add, add-suc, suc-add, le_of_suc-le-suc, not-suc-le-zero}
use lib.ListN.{length, get_or}
use Rattle.runs.proofs.Begins.{and_left, and_right}

module _ {A : Type 0} where
  -- the test passes at each row and its place, counted from i
  abbrev pub every : (ℕ → A → Bool) → ℕ → List A → Bool
  every f i [] = true
  every f i (x ∷ xs) = f i x && every f (suc i) xs

  from : (f : ℕ → A → Bool) (xs : List A) (i : ℕ) → every f i xs ≡ true → (k : ℕ) (d : A) → k < length xs → f (i + k) (get_or xs k d) ≡ true
  from f [] i t k d h = absurd (not-suc-le-zero h)
  from f (x ∷ xs) i t zero d h = rw (add-zero i) (and_left (f i x) (every f (suc i) xs) t)
  from f (x ∷ xs) i t (suc k) d h =
      rw (add-suc i k, ← suc-add i k) (from f xs (suc i) (and_right (f i x) (every f (suc i) xs) t) k d (le_of_suc-le-suc h))

  pub at : (f : ℕ → A → Bool) (xs : List A) → every f 0 xs ≡ true → (k : ℕ) (d : A) → k < length xs → f k (get_or xs k d) ≡ true
  at f xs t k d h = subst (λ (m : ℕ). f m (get_or xs k d) ≡ true) (zero-add k) (from f xs 0 t k d h)

  -- the test passes at each two rows and their places, the earlier first
  abbrev pub every_two : (ℕ → ℕ → A → A → Bool) → ℕ → List A → Bool
  every_two f i [] = true
  every_two f i (x ∷ xs) = every (λ j y. f i j x y) (suc i) xs && every_two f (suc i) xs

  two_from : (f : ℕ → ℕ → A → A → Bool) (xs : List A) (n : ℕ) → every_two f n xs ≡ true → (i j : ℕ) (d : A) → i < j → j < length xs
      → f (n + i) (n + j) (get_or xs i d) (get_or xs j d) ≡ true
  two_from f [] n t i j d l h = absurd (not-suc-le-zero h)
  two_from f (x ∷ xs) n t i zero d l h = absurd (not-suc-le-zero l)
  two_from f (x ∷ xs) n t zero (suc j) d l h =
      rw (add-zero n, add-suc n j, ← suc-add n j)
      (from (λ j y. f n j x y) xs (suc n) (and_left (every (λ j y. f n j x y) (suc n) xs) (every_two f (suc n) xs) t) j d (le_of_suc-le-suc h))
  two_from f (x ∷ xs) n t (suc i) (suc j) d l h =
      rw (add-suc n i, add-suc n j, ← suc-add n i, ← suc-add n j)
      (two_from f xs (suc n) (and_right (every (λ j y. f n j x y) (suc n) xs) (every_two f (suc n) xs) t) i j d (le_of_suc-le-suc l) (le_of_suc-le-suc h))

  pub at_two : (f : ℕ → ℕ → A → A → Bool) (xs : List A) → every_two f 0 xs ≡ true → (i j : ℕ) (d : A) → i < j → j < length xs
      → f i j (get_or xs i d) (get_or xs j d) ≡ true
  at_two f xs t i j d l h = rw (zero-add i, zero-add j) at (two_from f xs 0 t i j d l h)
