-- How many rows of a table pass a test, where no two do, or no three. The bounds on candidates and on the pieces visited cite these
-- laws. Assumes nothing.
use Prim.Native.Nat.{ℕ, suc, ◌+◌, ◌<◌, ◌≤◌}
use native.Mathlib.Omega.{arith}
use mathlib.Core.Path.{◌≡◌, refl}
use mathlib.Core.Bool.{Bool, true, false}
use mathlib.Core.List.{List, [], ◌∷◌}
use lib.ListN.{length, get_or}
use Rattle.runs.specs.Runs.{pick}

module _ {A : Type 0} (f : A → Bool) (d : A) where
  abbrev pub passing : List A → ℕ
  passing [] = 0
  passing (x ∷ xs) = pick (f x) 1 0 + passing xs

  none : (xs : List A) → ((i : ℕ) → i < length xs → f (get_or xs i d) ≡ true → ⊥) → passing xs ≤ 0
  none [] h = omega arith
  none (x ∷ xs) h = by (f x) refl (none xs (λ i l e. h (suc i) (omega arith) e))
    where
      by : (b : Bool) → f x ≡ b → passing xs ≤ 0 → pick b 1 0 + passing xs ≤ 0
      by true e n = absurd (h 0 (omega arith) e)
      by false e n = omega arith

  pub one : (xs : List A) → ((i j : ℕ) → i < j → j < length xs → f (get_or xs i d) ≡ true → f (get_or xs j d) ≡ true → ⊥) → passing xs ≤ 1
  one [] h = omega arith
  one (x ∷ xs) h = by (f x) refl (one xs (λ i j l m e g. h (suc i) (suc j) (omega arith) (omega arith) e g))
    where
      by : (b : Bool) → f x ≡ b → passing xs ≤ 1 → pick b 1 0 + passing xs ≤ 1
      by true e n = let z = none xs (λ i l g. h 0 (suc i) (omega arith) (omega arith) e g) in omega arith
      by false e n = omega arith

  pub two : (xs : List A)
      → ((i j k : ℕ) → i < j → j < k → k < length xs → f (get_or xs i d) ≡ true → f (get_or xs j d) ≡ true → f (get_or xs k d) ≡ true → ⊥) → passing xs ≤ 2
  two [] h = omega arith
  two (x ∷ xs) h = by (f x) refl (two xs (λ i j k l m n a b c. h (suc i) (suc j) (suc k) (omega arith) (omega arith) (omega arith) a b c))
    where
      by : (b : Bool) → f x ≡ b → passing xs ≤ 2 → pick b 1 0 + passing xs ≤ 2
      by true e n = let z = one xs (λ i j l m a b. h 0 (suc i) (suc j) (omega arith) (omega arith) (omega arith) e a b) in omega arith
      by false e n = omega arith
