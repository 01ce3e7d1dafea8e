-- Of causes listed by their numbers the first that applies has the lowest number. Whoever shows that an entry gives the lowest number
-- cites these. Assumes nothing.
use Prim.Native.Nat.{ℕ, ◌≤◌}
use native.Mathlib.Omega.{arith}
use mathlib.Core.Path.{◌≡◌, refl, ap, ◌∙◌}
use mathlib.Core.Bool.{Bool, true, false}
use mathlib.Core.List.{List, [], ◌∷◌, ◌++◌}
use lib.Dec.{leb}
use borrow.Author.Tests.{le-leb}
use Rattle.runs.specs.Runs.{pick}
use Rattle.refusals.specs.Refusals.{number, numbers_of, cause_if, lower, lowest_of, lowest_numbers_of, or_else}
use Rattle.refusals.specs.declared.Refusal.{Refusal}

-- no cause in the list has a number below n
abbrev pub AtLeast : ℕ → List Refusal → Type 0
AtLeast n [] = Unit {0}
AtLeast n (r ∷ rest) = (n ≤ number r) × AtLeast n rest

pub at_least_if : (n : ℕ) (b : Bool) (r : Refusal) (rest : List Refusal) → n ≤ number r → AtLeast n rest → AtLeast n (cause_if b r ++ rest)
at_least_if n true r rest h t = (h, t)
at_least_if n false r rest h t = t

first_lowest : (r : Refusal) (rest : List Refusal) → AtLeast (number r) rest → lowest_of r rest ≡ r
first_lowest r [] h = refl
first_lowest r (q ∷ rest) h =
    ap (λ (b : Bool). lowest_of (lower b r q) rest) (le-leb (number r) (number q) h.0) ∙ first_lowest r rest h.1

-- a cause before others with no lower number: it decides where it applies
pub lead : (b : Bool) (r : Refusal) (rest : List Refusal) → AtLeast (number r) rest
    → lowest_numbers_of (cause_if b r ++ rest) ≡ pick b (numbers_of r) (lowest_numbers_of rest)
lead true r rest h = ap numbers_of (first_lowest r rest h)
lead false r rest h = refl

-- no cause in the list has a number above n
abbrev pub AtMost : ℕ → List Refusal → Type 0
AtMost n [] = Unit {0}
AtMost n (r ∷ rest) = (number r ≤ n) × AtMost n rest

pub at_most_if : (n : ℕ) (b : Bool) (r : Refusal) (rest : List Refusal) → number r ≤ n → AtMost n rest → AtMost n (cause_if b r ++ rest)
at_most_if n true r rest h t = (h, t)
at_most_if n false r rest h t = t

pub at_least_down : (n m : ℕ) (rest : List Refusal) → n ≤ m → AtLeast m rest → AtLeast n rest
at_least_down n m [] h t = tt
at_least_down n m (r ∷ rest) h t = (omega arith, at_least_down n m rest h t.1)

-- causes before others with no lower number: they decide where one of them applies
pub lead_all : (n : ℕ) (rs rest : List Refusal) → AtMost n rs → AtLeast n rest → lowest_numbers_of (rs ++ rest) ≡ or_else (lowest_numbers_of rs) (lowest_numbers_of rest)
lead_all n [] rest h k = refl
lead_all n (r ∷ rs) rest h k = ap numbers_of (go r rs h.0 h.1)
  where
    go : (r : Refusal) (rs : List Refusal) → number r ≤ n → AtMost n rs → lowest_of r (rs ++ rest) ≡ lowest_of r rs
    go r [] a b = first_lowest r rest (at_least_down (number r) n rest a k)
    go r (q ∷ rs) a b = go (lower (leb (number r) (number q)) r q) rs (least (leb (number r) (number q))) b.1
      where
        least : (c : Bool) → number (lower c r q) ≤ n
        least true = a
        least false = b.0
