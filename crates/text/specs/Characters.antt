-- Characters of UTF-8 text: one Unicode scalar value each, as Rust's `chars` counts. Assumes nothing.
use Rattle.std.specs.Prelude.{ℕ, ◌+◌, List, [], ◌∷◌}
use Rattle.runs.specs.Runs.{pick}
use Rattle.text.specs.Utf8.{tail, within}

-- 0 for a byte that goes on with a character (UTF8-tail), 1 for every other
unfoldable pub opens : ℕ → ℕ
opens b = pick (within tail b) 0 1

-- the number of characters of s: its bytes that begin one
unfoldable pub chars : List ℕ → ℕ
chars [] = 0
chars (b ∷ s) = opens b + chars s
