-- Accepting a word (document 01, the table of refusals): numbers 1, 2 and 3, the lowest that applies. Assumes nothing.
use Rattle.std.specs.Prelude.{ℕ, not, List, length, ltb, Err, Ok, Result}
use Rattle.runs.specs.Runs.{pick}
use Rattle.refusals.specs.declared.Refusal.{Refusal}
use Rattle.refusals.specs.declared.Refusal.TheVariants.{WordTooLong, WordNotUtf8, WordForbidden}
use Rattle.text.specs.Utf8.{is_utf8}
use Rattle.text.specs.Names.{holds_forbidden}
use Rattle.text.specs.declared.word.WordFault.{WordFault}
use Rattle.text.specs.declared.word.WordFault.TheVariants.{TooLong, NotUtf8, Forbidden}

-- the refusal that a fault of a word is
abbrev pub refusal_of : WordFault → Refusal
refusal_of TooLong = WordTooLong
refusal_of NotUtf8 = WordNotUtf8
refusal_of Forbidden = WordForbidden

-- the most bytes that a word has
abbrev pub word_limit : ℕ
word_limit = 192

-- what is said of the word w
unfoldable pub word_check : List ℕ → Result (Unit {0}) WordFault
word_check w =
    pick (ltb word_limit (length w)) (Err TooLong)
    (pick (not (is_utf8 w)) (Err NotUtf8)
    (pick (holds_forbidden w) (Err Forbidden)
    (Ok tt)))
