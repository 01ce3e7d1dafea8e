-- The line of a refusal (document 01, "Readings worked by hand"), and texts parted by spaces. Assumes nothing.
use Rattle.std.specs.Prelude.{ℕ, zero, suc, List, [], ◌∷◌, ◌++◌, map}
use Rattle.writing.specs.Decimal.{decimal}

-- a space before every text but the first
abbrev pub gap : ℕ → List ℕ
gap zero = []
gap (suc i) = 0x20 ∷ []

abbrev pub parted_from : ℕ → List (List ℕ) → List ℕ
parted_from i [] = []
parted_from i (t ∷ ts) = gap i ++ (t ++ parted_from (suc i) ts)

-- texts parted by one space
abbrev pub parted : List (List ℕ) → List ℕ
parted ts = parted_from 0 ts

-- (refused N) or (refused N START), and 0A
unfoldable pub refused_text : List ℕ → List ℕ
refused_text numbers =
    (0x28 ∷ 0x72 ∷ 0x65 ∷ 0x66 ∷ 0x75 ∷ 0x73 ∷ 0x65 ∷ 0x64 ∷ 0x20 ∷ [])  -- (refused
    ++ (parted (map decimal numbers)
    ++ (0x29 ∷ 0x0A ∷ []))  -- ) and 0A
