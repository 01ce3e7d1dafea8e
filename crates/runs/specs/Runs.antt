-- Runs of bytes, and how two of them compare: by exact bytes, nothing else. Every crate above cites these. Assumes nothing.
use Rattle.std.specs.Prelude.{ℕ, ◌-◌, Bool, true, false, ◌&&◌, List, [], ◌∷◌, length, drop, eqb, leb, ltb}
use Rattle.std.specs.declared.cmp.Ordering.{Ordering}
use Rattle.std.specs.declared.cmp.Ordering.TheVariants.{Less, Equal, Greater}

-- the first where the test holds, else the second
abbrev pub pick : {A : Type 0} → Bool → A → A → A
pick true a b = a
pick false a b = b

-- a and b are the same bytes
abbrev pub same_text : List ℕ → List ℕ → Bool
same_text [] [] = true
same_text [] (y ∷ ys) = false
same_text (x ∷ xs) [] = false
same_text (x ∷ xs) (y ∷ ys) = eqb x y && same_text xs ys

-- the order of a and b by their bytes, from the first on; a run stands before each longer run that it begins
abbrev pub cmp : List ℕ → List ℕ → Ordering
cmp [] [] = Equal
cmp [] (y ∷ ys) = Less
cmp (x ∷ xs) [] = Greater
cmp (x ∷ xs) (y ∷ ys) = pick (ltb x y) Less (pick (ltb y x) Greater (cmp xs ys))

abbrev pub is_less : Ordering → Bool
is_less Less = true
is_less Equal = false
is_less Greater = false

-- head stands at the front of s
abbrev pub begins_with : List ℕ → List ℕ → Bool
begins_with [] s = true
begins_with (x ∷ xs) [] = false
begins_with (x ∷ xs) (y ∷ ys) = eqb x y && begins_with xs ys

-- s ends in tail
abbrev pub ends_in : List ℕ → List ℕ → Bool
ends_in tail s = leb (length tail) (length s) && same_text (drop (length s - length tail) s) tail
