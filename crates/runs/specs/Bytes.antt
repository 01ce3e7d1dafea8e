-- Where a byte stands in a run: the place of the first one, or the run's length. Assumes nothing.
use Rattle.std.specs.Prelude.{ℕ, zero, suc, Bool, true, false, List, [], ◌∷◌, take, drop, eqb}

-- the bytes of s from `from` on, up to `to`
unfoldable pub slice : ℕ → ℕ → List ℕ → List ℕ
slice from to s = drop from (take to s)

-- the place of what is sought: here, or one behind its place in the rest
unfoldable pub index_after : Bool → ℕ → ℕ
index_after true n = zero
index_after false n = suc n

-- the place of the first byte b of s, or the length of s
unfoldable pub index_of : ℕ → List ℕ → ℕ
index_of b [] = zero
index_of b (x ∷ s) = index_after (eqb x b) (index_of b s)
