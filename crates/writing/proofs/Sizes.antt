-- How long a number, texts parted by spaces and the line of a refusal are. Assumes nothing.
use Prim.Native.Nat.{ℕ, zero, suc, ◌+◌, ◌*◌, ◌/◌, ◌%◌, ◌≤◌, ◌<◌}
use native.Mathlib.Omega.{arith}
use native.Mathlib.Nat.{suc-mul}
use mathlib.Core.Path.{◌≡◌, refl, ap, ◌∙◌}
use mathlib.Core.Bool.{Bool, true, false}
use mathlib.Core.List.{List, [], ◌∷◌, map}
use lib.ListN.{length, length-append}
use lib.Dec.{ltb}
use borrow.Author.Tests.{ltb-true, ltb-false}
use Rattle.writing.specs.Decimal.{digit, decimal}
use Rattle.writing.specs.Refused.{gap, parted_from}
use Rattle.writing.proofs.Digits.{one_digit, more_digits}

gap-size : (i : ℕ) → length (gap i) ≤ 1
gap-size zero = omega arith
gap-size (suc i) = omega arith

pub parted-size : {A : Type 0} (f : A → List ℕ) (m : ℕ) → ((x : A) → length (f x) ≤ m) → (i : ℕ) (xs : List A)
    → length (parted_from i (map f xs)) ≤ length xs * (m + 1)
parted-size f m h i [] = omega arith
parted-size f m h i (x ∷ xs) =
    let g = gap-size i in
    let t = h x in
    let r = parted-size f m h (suc i) xs in
    let z = suc-mul (length xs) (m + 1) in
    simp length-append (omega arith)

-- a number below ten times b has at most one digit more than those below b
pub more-size : (j b : ℕ) → ((n : ℕ) → n < b → length (decimal n) ≤ suc j) → (n : ℕ) → n < 10 * b → length (decimal n) ≤ suc (suc j)
more-size j b h n l = by (ltb n 10) refl
  where
    by : (t : Bool) → ltb n 10 ≡ t → length (decimal n) ≤ suc (suc j)
    by true e = let z = ap length (one_digit n (ltb-true _ _ e)) in omega arith
    by false e =
        let z = ap length (more_digits n (ltb-false _ _ e)) ∙ length-append (decimal (n / 10)) (digit (n % 10) ∷ []) in
        let r = h (n / 10) (omega arith) in
        omega arith

pub digit-size : (n : ℕ) → n < 10 → length (decimal n) ≤ 1
digit-size n h = let z = ap length (one_digit n h) in omega arith

pub count-size : (n : ℕ) → n < 100 → length (decimal n) ≤ 2
count-size n h = more-size 0 10 digit-size n (omega arith)

pub number_size : (n : ℕ) → n < 100000 → length (decimal n) ≤ 5
number_size n h =
    more-size 3 10000 (λ n h. more-size 2 1000 (λ n h. more-size 1 100 count-size n (omega arith)) n (omega arith)) n (omega arith)
