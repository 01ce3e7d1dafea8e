-- `rows::put_rows` meets its contract: the rows put so far and those to come are all of them, and those put are short. Assumes nothing.
use Prim.Native.Nat.{◌+◌, ◌*◌, ◌≤◌}
use mathlib.Core.Path.{◌≡◌}
use lib.ListN.{length, drop}
use Rattle.text.specs.Word.{word_limit}
use Rattle.writing.specs.Writers.{with_text}
use Rattle.listing.specs.Texts.{row_texts, row_room}
use Rattle.listing.proofs.rows.put_rows.Given as goal

abbrev pub invariant-loop-row : goal.invariant-loop-row
invariant-loop-row l =
    (with_text l.w (row_texts l.word (drop l.row-index l.rows)) ≡ with_text l.fn.w (row_texts l.word l.rows))
    × (length l.word ≤ word_limit → length (row_texts l.word l.rows) ≤ l.row-index * row_room + length (row_texts l.word (drop l.row-index l.rows)))
