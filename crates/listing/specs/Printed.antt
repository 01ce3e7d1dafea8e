-- What is written for a word and a sheet, and what the program `readings` prints for its input (document 01, "What an entry hands
-- back" and "Readings worked by hand"). Assumes nothing.
use Rattle.refusals.specs.declared.Refusal.{Refusal}
use Rattle.std.specs.Prelude.{ℕ, ◌+◌, List, length, take, drop, leb, Err, Ok, Result}
use Rattle.runs.specs.Bytes.{index_of}
use Rattle.runs.specs.Runs.{pick}
use Rattle.ranking.specs.declared.Classified.{Classified}
use Rattle.refusals.specs.Refusals.{numbers_of, output_by}
use Rattle.refusals.specs.declared.Refusal.TheVariants.{SheetTooLong}
use Rattle.analysis.specs.Answers.{said_of, rows_given}
use Rattle.writing.specs.Placed.{written_of}
use Rattle.writing.specs.Refused.{refused_text}
use Rattle.listing.specs.Texts.{listing_text}

-- What is handed back for a word and a sheet with a lent buffer: of a list, the number of the bytes of its text, or that the buffer is
-- shorter; else the refusal, with the buffer as it was.
abbrev pub outcome_by : Result (Unit {0}) Refusal → Result ℕ Refusal → Result ℕ Refusal
outcome_by (Ok _) x = x
outcome_by (Err r) x = Err r

unfoldable pub outcome_of : List ℕ → List ℕ → List ℕ → Result ℕ Refusal
outcome_of w s out = outcome_by (said_of w s) (written_of (listing_text w (rows_given w s)) out)

unfoldable pub left_of : List ℕ → List ℕ → List ℕ → List ℕ
left_of w s out = output_by (outcome_of w s out) (listing_text w (rows_given w s)) out

-- What is printed: the list, or a line with the numbers of the refusal.
abbrev pub said_text : List ℕ → Result (Unit {0}) Refusal → List Classified → List ℕ
said_text w (Ok _) rs = listing_text w rs
said_text w (Err r) rs = refused_text (numbers_of r)

-- what is printed for the word w and the sheet s
unfoldable pub readings_text : List ℕ → List ℕ → List ℕ
readings_text w s = said_text w (said_of w s) (rows_given w s)

-- the word: the input up to the first 0A, all of it where there is none
abbrev pub word_of : List ℕ → List ℕ
word_of input = take (index_of 0x0A input) input

-- the sheet: what stands after that 0A, nothing where there is none
abbrev pub sheet_of : List ℕ → List ℕ
sheet_of input = drop (index_of 0x0A input + 1) input

-- the most bytes that the program takes
abbrev pub input_limit : ℕ
input_limit = 65536

-- what is printed for an input
unfoldable pub printed : List ℕ → List ℕ
printed input = pick (leb (length input) input_limit) (readings_text (word_of input) (sheet_of input)) (refused_text (numbers_of SheetTooLong))
