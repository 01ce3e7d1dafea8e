-- Characters and their numbers, by RFC 3629: what is one character (section 4), and which number it stands for (section 3). Assumes
-- nothing.
use Rattle.std.specs.Prelude.{ℕ, ◌+◌, ◌-◌, ◌*◌}
use mathlib.Core.List.{List, [], ◌∷◌, ◌++◌, Memᴰ}
use Rattle.text.specs.Utf8.{Range, utf8_char, FitsRow}

-- c is one character: its bytes fit a row of the grammar
abbrev pub Character : List ℕ → Type 0
Character c = (row : List Range) × Memᴰ row utf8_char × FitsRow row c

-- the bytes of characters that stand one after the other
unfoldable pub bytes : List (List ℕ) → List ℕ
bytes [] = []
bytes (c ∷ cs) = c ++ bytes cs

-- the number of a character: the bits that its bytes hold, 7 of one byte, 5 and 6 of two, 4 and twice 6 of three, 3 and thrice 6 of four
unfoldable pub scalar : List ℕ → ℕ
scalar [] = 0
scalar (a ∷ []) = a
scalar (a ∷ b ∷ []) = (a - 0xC0) * 64 + (b - 0x80)
scalar (a ∷ b ∷ c ∷ []) = (a - 0xE0) * 4096 + (b - 0x80) * 64 + (c - 0x80)
scalar (a ∷ b ∷ c ∷ d ∷ []) = (a - 0xF0) * 262144 + (b - 0x80) * 4096 + (c - 0x80) * 64 + (d - 0x80)
scalar (a ∷ b ∷ c ∷ d ∷ e ∷ s) = 0
