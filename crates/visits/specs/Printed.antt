-- What the program prints for a sheet and an input of words, one a line: for each word in order `(v N WORD)`, N the pieces visited, or the
-- word's refusal; for a refused sheet its refusal once, and nothing else. Assumes nothing.
use Rattle.refusals.specs.declared.Refusal.{Refusal}
use Rattle.std.specs.Prelude.{ℕ, List, [], ◌∷◌, ◌++◌, eqb, Err, Ok, Result}
use Rattle.runs.specs.Runs.{pick}
use Rattle.text.specs.Word.{word_check}
use Rattle.refusals.specs.Refusals.{numbers_of}
use Rattle.sheet.specs.Lines.{sheet_check}
use Rattle.sheet.specs.Inputs.{of_word, by_sheet}
use Rattle.sheet.specs.Replies.{reply}
use Rattle.writing.specs.Decimal.{decimal}
use Rattle.writing.specs.Refused.{refused_text}
use Rattle.paths.specs.Visits.{visits_of}

-- what is printed where this is said: a text, or the line of the refusal
abbrev pub said_or : Result (Unit {0}) Refusal → List ℕ → List ℕ
said_or (Ok _) text = text
said_or (Err r) text = refused_text (numbers_of r)

-- (v N WORD) and 0A
unfoldable pub visit_line : ℕ → List ℕ → List ℕ
visit_line n w = (0x28 ∷ 0x76 ∷ 0x20 ∷ []) ++ (decimal n ++ ((0x20 ∷ []) ++ (w ++ (0x29 ∷ 0x0A ∷ []))))

-- the line of a word under an accepted sheet
unfoldable pub word_line : List ℕ → List ℕ → List ℕ
word_line sheet w = said_or (of_word (word_check w)) (visit_line (visits_of (reply sheet) w) w)

-- the lines of the words that a 0A ends; `before` is what stands before the input and has not been ended yet
unfoldable pub lines_of : List ℕ → List ℕ → List ℕ → List ℕ
lines_of sheet before [] = []
lines_of sheet before (b ∷ input) = pick (eqb b 0x0A) (word_line sheet before ++ lines_of sheet [] input) (lines_of sheet (before ++ b ∷ []) input)

-- what is left that no 0A ends
unfoldable pub unended : List ℕ → List ℕ → List ℕ
unended before [] = before
unended before (b ∷ input) = pick (eqb b 0x0A) (unended [] input) (unended (before ++ b ∷ []) input)

-- it is a word too, unless it is empty
unfoldable pub last_line : List ℕ → List ℕ → List ℕ
last_line sheet [] = []
last_line sheet (b ∷ w) = word_line sheet (b ∷ w)

-- all that is printed
unfoldable pub printed : List ℕ → List ℕ → List ℕ
printed sheet input = said_or (by_sheet (sheet_check sheet)) (lines_of sheet [] input ++ last_line sheet (unended [] input))
