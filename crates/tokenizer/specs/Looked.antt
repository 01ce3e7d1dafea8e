-- What the code's reader sees at the front of a text. Assumes nothing.
use Rattle.std.specs.Prelude.{ℕ, Bool, List, Option, Some, None, take, leb}
use Rattle.runs.specs.Runs.{pick}
use Rattle.tokenizer.specs.Scalars.{scalar}
use Rattle.tokenizer.specs.Parting.{parts, devanagari}
use Rattle.tokenizer.specs.Scanned.{width}
use Rattle.tokenizer.specs.declared.seen.Seen.{Seen}

-- how many bytes the character at the front of s has, where one stands there
unfoldable pub sized : List ℕ → Option ℕ
sized s = pick (leb 1 (width s)) (Some (width s)) None

abbrev pub sight : ℕ → Bool → Bool → Seen
sight n p d = record { size = n; parting = p; deva = d }

-- the character at the front of s, by its size, and by whether it parts and is one of U+0900 to U+097F, where one stands there
unfoldable pub seen : List ℕ → Option Seen
seen s = pick (leb 1 (width s)) (Some (sight (width s) (parts (scalar (take (width s) s))) (devanagari (scalar (take (width s) s))))) None
