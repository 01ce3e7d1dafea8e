-- The bytes that no word and no name holds: 00 to 20, 28, 29 and 7F. Assumes nothing.
use Rattle.std.specs.Prelude.{ℕ, zero, suc, Bool, true, false, ◌||◌, List, [], ◌∷◌, leb, eqb}
use Rattle.runs.specs.Runs.{pick}

unfoldable pub forbidden : ℕ → Bool
forbidden b = leb b 0x20 || eqb b 0x28 || eqb b 0x29 || eqb b 0x7F

-- how many bytes stand before the first forbidden one, or before the end
unfoldable pub name_run : List ℕ → ℕ
name_run [] = zero
name_run (b ∷ s) = pick (forbidden b) zero (suc (name_run s))

-- s holds a forbidden byte
unfoldable pub holds_forbidden : List ℕ → Bool
holds_forbidden [] = false
holds_forbidden (b ∷ s) = pick (forbidden b) true (holds_forbidden s)
