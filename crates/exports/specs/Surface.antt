-- What `yunthirel_surface` does: the word put back together from a row (document 02 (f)). Assumes nothing.
use Rattle.refusals.specs.declared.Refusal.{Refusal}
use Rattle.std.specs.Prelude.{ℕ, List, length, replicate, ltb, Err, Ok, Result}
use Rattle.runs.specs.Runs.{pick}
use Rattle.text.specs.Word.{word_check}
use Rattle.sheet.specs.Inputs.{of_word}
use Rattle.ranking.specs.Stored.{reading_width, reading_at}
use Rattle.ranking.specs.declared.Reading.{Reading}
use Rattle.paths.specs.Recomposed.{surface_text}
use Rattle.writing.specs.Placed.{written_of, text_over}
use Rattle.exports.specs.Codes.{refusal_code, written_code}
use Rattle.exports.specs.Rows.{Filled}

-- the reading that a row says; of a row with too few bytes, that of a row of zeros
abbrev pub reading_in : List ℕ → Reading
reading_in row = reading_at (pick (ltb (length row) reading_width) (replicate reading_width 0) row)

-- what is handed back and left, by what is said of the word
abbrev pub surface_if : Result (Unit {0}) Refusal → List ℕ → List ℕ → Filled
surface_if (Ok _) text out = record { code = written_code (written_of text out); buffer = text_over text out }
surface_if (Err r) text out = record { code = refusal_code r; buffer = out }

unfoldable pub surface_filled : List ℕ → List ℕ → List ℕ → Filled
surface_filled word row out = surface_if (of_word (word_check word)) (surface_text word (reading_in row)) out
