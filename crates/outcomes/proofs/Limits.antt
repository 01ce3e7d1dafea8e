-- The limits, with their numbers written out: a word of 192 bytes and of 193, a name of 210 and of 211, a sheet of 65,536 and of 65,537, an
-- input of the program of 65,536 and of 65,537. Assumes nothing.
use Rattle.std.specs.Prelude.{Err, Ok}
use Prim.Native.Nat.{ℕ}
use native.Mathlib.Omega.{arith}
use mathlib.Core.Path.{◌≡◌, refl}
use mathlib.Core.Bool.{false, not, ◌&&◌}
use mathlib.Core.List.{List, [], ◌∷◌}
use lib.ListN.{length}
use borrow.Author.Tests.{lt-ltb, le-ltb, le-leb, lt-leb}
use Rattle.runs.specs.Runs.{pick}
use Rattle.text.specs.Utf8.{is_utf8}
use Rattle.text.specs.Names.{holds_forbidden}
use Rattle.text.specs.Word.{word_limit, word_check}
use Rattle.text.specs.declared.word.WordFault.TheVariants as words
use Rattle.sheet.specs.declared.check.SheetFault.TheVariants as sheets
use Rattle.sheet.specs.Limits.{name_limit, sheet_limit}
use Rattle.sheet.specs.Forms.{is_name}
use Rattle.sheet.specs.Lines.{starts_of, judged, sheet_check}
use Rattle.writing.specs.Refused.{refused_text}
use Rattle.listing.specs.Printed.{input_limit, word_of, sheet_of, readings_text, printed}

-- a word of 193 bytes is too long, whatever it holds; one of 192 is judged by what it holds
pub word_of_193 : (w : List ℕ) → length w ≡ 193 → word_check w ≡ (Err words.TooLong)
unfolding word_check
word_of_193 w e = rw (lt-ltb word_limit (length w) (omega arith))

pub word_of_192 : (w : List ℕ) → length w ≡ 192 → word_check w ≡ pick (not (is_utf8 w)) (Err words.NotUtf8) (pick (holds_forbidden w) (Err words.Forbidden) (Ok tt))
unfolding word_check
word_of_192 w e = rw (le-ltb word_limit (length w) (omega arith))

-- a name of 211 bytes is none, nor is an empty one; of one of 210 it is asked what it holds
pub name_of_211 : (n : List ℕ) → length n ≡ 211 → is_name n ≡ false
unfolding is_name
name_of_211 n e = rw (lt-ltb 0 (length n) (omega arith), lt-leb (length n) name_limit (omega arith))

pub name_of_210 : (n : List ℕ) → length n ≡ 210 → is_name n ≡ (is_utf8 n && not (holds_forbidden n))
unfolding is_name
name_of_210 n e = rw (lt-ltb 0 (length n) (omega arith), le-leb (length n) name_limit (omega arith))

pub name_of_0 : is_name [] ≡ false
unfolding is_name
name_of_0 = refl

-- the same of a sheet
pub sheet_of_65537 : (s : List ℕ) → length s ≡ 65537 → sheet_check s ≡ Err sheets.TooLong
unfolding sheet_check
sheet_of_65537 s e = rw (lt-ltb sheet_limit (length s) (omega arith))

pub sheet_of_65536 : (s : List ℕ) → length s ≡ 65536 → sheet_check s ≡ judged s [] (starts_of s)
unfolding sheet_check
sheet_of_65536 s e = rw (le-ltb sheet_limit (length s) (omega arith))

-- and of the program's input
pub input_of_65537 : (input : List ℕ) → length input ≡ 65537 → printed input ≡ refused_text (4 ∷ [])
unfolding printed
input_of_65537 input e = rw (lt-leb (length input) input_limit (omega arith))

pub input_of_65536 : (input : List ℕ) → length input ≡ 65536 → printed input ≡ readings_text (word_of input) (sheet_of input)
unfolding printed
input_of_65536 input e = rw (le-leb (length input) input_limit (omega arith))
