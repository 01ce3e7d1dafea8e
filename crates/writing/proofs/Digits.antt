-- Decimal notation: what its definition says for one digit and for more, that it has the number's value, and that it begins with 0
-- only for 0. Assumes nothing.
use Prim.Native.Nat.{ℕ, zero, suc, ◌+◌, ◌*◌, ◌-◌, ◌/◌, ◌%◌, ◌≤◌, ◌<◌}
use native.Mathlib.Omega.{arith}
use mathlib.Core.Path.{◌≡◌, refl, ap}
use mathlib.Core.Bool.{Bool, true, false}
use mathlib.Core.List.{List, [], ◌∷◌, ◌++◌}
use lib.Dec.{ltb}
use borrow.Author.Tests.{lt-ltb, le-ltb, ltb-false}
use Rattle.runs.specs.Runs.{pick}
use lib.ListN.{get_or}
use Rattle.writing.specs.Decimal.{digit, digits_in, decimal, value_from, value}

-- how many digits are allowed makes no difference, once they are enough
enough : (j k n : ℕ) → n < j → n < k → digits_in j n ≡ digits_in k n
unfolding digits_in
enough zero k n a b = absurd (omega arith)
enough (suc j) zero n a b = absurd (omega arith)
enough (suc j) (suc k) n a b = by (ltb n 10) refl (λ h. enough j k (n / 10) (omega arith) (omega arith))
  where
    by : (s : Bool) → ltb n 10 ≡ s → (10 ≤ n → digits_in j (n / 10) ≡ digits_in k (n / 10))
        → pick s (digit n ∷ []) (digits_in j (n / 10) ++ (digit (n % 10) ∷ [])) ≡ pick s (digit n ∷ []) (digits_in k (n / 10) ++ (digit (n % 10) ∷ []))
    by true e more = refl
    by false e more = ap (λ (l : List ℕ). l ++ (digit (n % 10) ∷ [])) (more (ltb-false _ _ e))

pub one_digit : (n : ℕ) → n < 10 → decimal n ≡ digit n ∷ []
unfolding decimal digits_in
one_digit n h = rw (lt-ltb _ _ h)

pub more_digits : (n : ℕ) → 10 ≤ n → decimal n ≡ decimal (n / 10) ++ (digit (n % 10) ∷ [])
unfolding decimal digits_in
more_digits n h = rw (le-ltb _ _ h) (ap (λ (l : List ℕ). l ++ (digit (n % 10) ∷ [])) (enough n (suc (n / 10)) (n / 10) (omega arith) (omega arith)))

-- one digit more
value-more : (n : ℕ) (ds : List ℕ) (d : ℕ) → value_from n (ds ++ (d ∷ [])) ≡ value_from n ds * 10 + (d - 48)
value-more n [] d = refl
value-more n (x ∷ ds) d = value-more (n * 10 + (x - 48)) ds d

value_in : (k n : ℕ) → n < k → value (digits_in k n) ≡ n
unfolding digits_in
value_in zero n h = absurd (omega arith)
value_in (suc k) n h = by (ltb n 10) refl (λ m. value_in k (n / 10) (omega arith))
  where
    by : (b : Bool) → ltb n 10 ≡ b → (10 ≤ n → value (digits_in k (n / 10)) ≡ n / 10)
        → value (pick b (digit n ∷ []) (digits_in k (n / 10) ++ (digit (n % 10) ∷ []))) ≡ n
    by true e rest = omega arith
    by false e rest =
        let h : 10 ≤ n = ltb-false _ _ e in
        let v = value-more 0 (digits_in k (n / 10)) (digit (n % 10)) in
        let r = rest h in
        omega arith

-- the digits of a number spell it
pub spells : (n : ℕ) → value (decimal n) ≡ n
unfolding decimal
spells n = value_in (suc n) n (omega arith)

first_of : (ds : List ℕ) (d : ℕ) → get_or (ds ++ (d ∷ [])) 0 48 ≡ 48 → get_or ds 0 48 ≡ 48
first_of [] d e = refl
first_of (x ∷ ds) d e = e

first_in : (k n : ℕ) → n < k → get_or (digits_in k n) 0 48 ≡ 48 → n ≡ 0
unfolding digits_in
first_in zero n h = absurd (omega arith)
first_in (suc k) n h = by (ltb n 10) refl (λ m. first_in k (n / 10) (omega arith))
  where
    by : (b : Bool) → ltb n 10 ≡ b → (10 ≤ n → get_or (digits_in k (n / 10)) 0 48 ≡ 48 → n / 10 ≡ 0)
        → get_or (pick b (digit n ∷ []) (digits_in k (n / 10) ++ (digit (n % 10) ∷ []))) 0 48 ≡ 48 → n ≡ 0
    by true e rest z = omega arith
    by false e rest z =
        let h : 10 ≤ n = ltb-false _ _ e in
        let r = rest h (first_of (digits_in k (n / 10)) (digit (n % 10)) z) in
        omega arith

-- and begin with 0 only for 0
pub no_zero_first : (n : ℕ) → get_or (decimal n) 0 48 ≡ 48 → n ≡ 0
unfolding decimal
no_zero_first n = first_in (suc n) n (omega arith)
