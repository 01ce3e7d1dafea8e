-- How things are counted and listed: lists in which every element stands in a relation to each later one, lists without repeats, and
-- "at least n". Assumes nothing.
use Rattle.std.specs.Prelude.{ℕ, ◌≡◌, length}
use mathlib.Core.List.{List, [], ◌∷◌, Memᴰ}

-- each element stands so to all that come after it
abbrev pub Pairwise : {A : Type 0} → (A → A → Type 0) → List A → Type 0
Pairwise R [] = Unit {0}
Pairwise {A} R (x ∷ xs) = ((y : A) → Memᴰ y xs → R x y) × Pairwise R xs

-- without repeats
abbrev pub Distinct : {A : Type 0} → List A → Type 0
Distinct {A} xs = Pairwise (λ (x y : A). x ≡ y → ⊥) xs

-- n different things, each with the property
abbrev pub AtLeast : {A : Type 0} → ℕ → (A → Type 0) → Type 0
AtLeast {A} n P = (xs : List A) × (length xs ≡ n) × Distinct xs × ((x : A) → Memᴰ x xs → P x)
