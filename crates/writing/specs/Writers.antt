-- A writer once something is put. Assumes nothing.
use Rattle.std.specs.Prelude.{ℕ, ◌+◌, min, List, set}
use Rattle.std.specs.List.{fold}
use Rattle.writing.specs.Placed.{largest}
use Rattle.writing.specs.declared.Writer.{Writer}

-- a byte: it stands at the place where the buffer has one, and the place goes on by one until the largest number
unfoldable pub with_byte : Writer → ℕ → Writer
with_byte w b = record w { out = record w.out { now = set w.out.now w.at b }; at = min (w.at + 1) largest }

-- a text, byte by byte
abbrev pub with_text : Writer → List ℕ → Writer
with_text w text = fold with_byte w text
