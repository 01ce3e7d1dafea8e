-- Decimal notation, by repeated division: the digits of n / 10, then the digit of n % 10. proofs/Digits.antt shows that the digits of
-- a number have its value and begin with 0 only for 0. Assumes nothing.
use Rattle.std.specs.Prelude.{ℕ, zero, suc, ◌+◌, ◌-◌, ◌*◌, ◌/◌, ◌%◌, List, [], ◌∷◌, ◌++◌, ltb}
use Rattle.runs.specs.Runs.{pick}

-- the byte of a digit
abbrev pub digit : ℕ → ℕ
digit d = 48 + d

-- at most k digits of n
unfoldable pub digits_in : ℕ → ℕ → List ℕ
digits_in zero n = []
digits_in (suc k) n = pick (ltb n 10) (digit n ∷ []) (digits_in k (n / 10) ++ (digit (n % 10) ∷ []))

-- all digits of n: there are never more than n + 1
unfoldable pub decimal : ℕ → List ℕ
decimal n = digits_in (suc n) n

-- the number that digits spell, the most significant first
abbrev pub value_from : ℕ → List ℕ → ℕ
value_from n [] = n
value_from n (d ∷ ds) = value_from (n * 10 + (d - 48)) ds

abbrev pub value : List ℕ → ℕ
value ds = value_from 0 ds
