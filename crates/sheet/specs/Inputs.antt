-- What is said of a word and a sheet together (document 01, "What an entry hands back"): accepted, or refused by the lowest number that
-- applies. Assumes nothing.
use Rattle.std.specs.Prelude.{ℕ, not, List, [], ◌∷◌, ◌++◌, length, ltb, Err, Ok, Result}
use Rattle.refusals.specs.Refusals.{places, numbers_of, Before, cause_if, lowest_numbers_of}
use Rattle.refusals.specs.declared.Refusal.{Refusal}
use Rattle.refusals.specs.declared.Refusal.TheVariants.{WordTooLong, WordNotUtf8, WordForbidden, SheetTooLong}
use Rattle.text.specs.Utf8.{is_utf8}
use Rattle.text.specs.Names.{holds_forbidden}
use Rattle.text.specs.Word.{word_limit, word_check}
use Rattle.text.specs.declared.word.WordFault.{WordFault}
use Rattle.text.specs.Word as words
use Rattle.sheet.specs.Limits.{sheet_limit}
use Rattle.sheet.specs.Lines.{starts_of, judged, sheet_check}
use Rattle.sheet.specs.declared.check.SheetFault.{SheetFault}
use Rattle.sheet.specs.Lines as sheets

-- what is said of a word alone, and of a sheet alone
abbrev pub of_word : Result (Unit {0}) WordFault → Result (Unit {0}) Refusal
of_word (Ok _) = Ok tt
of_word (Err fault) = Err (words.refusal_of fault)

abbrev pub by_sheet : Result (Unit {0}) SheetFault → Result (Unit {0}) Refusal
by_sheet (Ok _) = Ok tt
by_sheet (Err fault) = Err (sheets.refusal_of fault)

-- what is said of one, and where that is accepted of the other
abbrev pub or_else : Result (Unit {0}) Refusal → Result (Unit {0}) Refusal → Result (Unit {0}) Refusal
or_else (Ok _) i = i
or_else (Err r) i = Err r

-- what is said of word and sheet: every number of a word is lower than those of a sheet
abbrev pub by_word_then : Result (Unit {0}) WordFault → Result (Unit {0}) Refusal → Result (Unit {0}) Refusal
by_word_then c i = or_else (of_word c) i

unfoldable pub inputs_of : List ℕ → List ℕ → Result (Unit {0}) Refusal
inputs_of word sheet = by_word_then (word_check word) (by_sheet (sheet_check sheet))

-- the numbers that come with what is said: none for accepted ones
abbrev pub numbers_given : Result (Unit {0}) Refusal → List ℕ
numbers_given (Ok _) = []
numbers_given (Err r) = numbers_of r

-- every cause of document 01's table that applies to a word and a sheet: each is tested by itself, and of a sheet's faulty lines the
-- first decides
abbrev pub fault_of : Result (Unit {0}) SheetFault → List Refusal
fault_of (Ok _) = []
fault_of (Err fault) = sheets.refusal_of fault ∷ []

abbrev pub causes : List ℕ → List ℕ → List Refusal
causes word sheet =
    cause_if (ltb word_limit (length word)) WordTooLong
    ++ (cause_if (not (is_utf8 word)) WordNotUtf8
    ++ (cause_if (holds_forbidden word) WordForbidden
    ++ (cause_if (ltb sheet_limit (length sheet)) SheetTooLong
    ++ fault_of (judged sheet [] (starts_of sheet)))))

-- the lowest number that applies, with its place; none where nothing does
unfoldable pub lowest_numbers : List ℕ → List ℕ → List ℕ
lowest_numbers word sheet = lowest_numbers_of (causes word sheet)

-- the faulty line of a refusal, if it has one, begins inside the longest sheet
abbrev pub Placed : Refusal → Type 0
Placed r = Before sheet_limit (places r)
