-- Parts of a word, by their first byte and the byte after their last. Assumes nothing.
use Rattle.std.specs.Prelude.{ℕ, ◌-◌, ◌&&◌, List, [], length, take, drop, leb}
use Rattle.runs.specs.Runs.{pick}

-- the bytes of w from `from` to `to`; nothing where that is no place inside w
unfoldable pub part : List ℕ → ℕ → ℕ → List ℕ
part w from to = pick (leb from to && leb to (length w)) (take (to - from) (drop from w)) []
