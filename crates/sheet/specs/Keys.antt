-- How a line's key stands to a question's (document 01, "The sheet": lines ascend by first letter, then by the name's bytes).
-- Assumes nothing.
use Rattle.std.specs.Prelude.{ℕ, List, [], ◌∷◌, take, ltb}
use Rattle.runs.specs.Bytes.{index_of}
use Rattle.runs.specs.Runs.{pick}
use Rattle.std.specs.declared.cmp.Ordering.{Ordering}
use Rattle.std.specs.declared.cmp.Ordering.TheVariants.{Less, Equal, Greater}

-- the bytes before the first space
abbrev pub spaced : List ℕ → List ℕ
spaced t = take (index_of 0x20 t) t

-- how name stands to all names that begin with head: equal if it is one of them
abbrev pub headed : List ℕ → List ℕ → Ordering
headed name [] = Equal
headed [] (y ∷ head) = Less
headed (x ∷ name) (y ∷ head) = pick (ltb x y) Less (pick (ltb y x) Greater (headed name head))
