-- The lines of tokens whose starts and ends stand in a list, one after the other. Assumes nothing.
use Rattle.std.specs.Prelude.{ℕ, ◌/◌, List, [], ◌∷◌, ◌++◌, length}
use Rattle.writing.specs.Decimal.{decimal}
use Rattle.tokens.specs.Printed.{token_line}

unfoldable pub lines_of : List ℕ → List ℕ
lines_of [] = []
lines_of (a ∷ []) = []
lines_of (a ∷ e ∷ rest) = token_line a e ++ lines_of rest

unfoldable pub list_text : List ℕ → List ℕ
list_text list = (0x28 ∷ 0x6C ∷ 0x69 ∷ 0x73 ∷ 0x74 ∷ 0x20 ∷ []) ++ (decimal (length list / 2) ++ ((0x29 ∷ 0x0A ∷ []) ++ lines_of list))
