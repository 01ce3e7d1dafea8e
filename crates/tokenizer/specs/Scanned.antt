-- The tokens of a text as a list, character by character: what the contracts cite. Assumes nothing.
use Rattle.std.specs.Prelude.{ℕ, zero, suc, ◌+◌, ◌-◌, Bool, true, false, ◌&&◌, ◌||◌, List, [], ◌∷◌, length, take, leb}
use Rattle.runs.specs.Runs.{pick}
use Rattle.text.specs.Utf8.{Range, within, utf8_char, Owed, owes, misfit, opened}
use Rattle.tokenizer.specs.Scalars.{scalar}
use Rattle.tokenizer.specs.Parting.{parts, devanagari}
use Rattle.tokenizer.specs.Tokens.{Span, span}

-- s begins with a byte of each range, in their order
unfoldable pub fits : List Range → List ℕ → Bool
fits [] s = true
fits (r ∷ rs) [] = false
fits (r ∷ rs) (b ∷ s) = within r b && fits rs s

-- how many bytes the character at the front of s has; 0 where none stands there
abbrev pub width_by : Owed → List ℕ → ℕ
width_by misfit s = 0
width_by (owes rs) s = pick (fits rs s) (suc (length rs)) 0

unfoldable pub width : List ℕ → ℕ
width [] = 0
width (b ∷ s) = width_by (opened utf8_char b) s

-- a text by its characters: it ends; it goes on with no character; or with one of so many bytes, which parts or not, in the range or not
pub data Chars : Type 0 where
  finished : Chars
  broken : Chars
  char : (size : ℕ) (parting deva : Bool) → Chars → Chars

-- the characters of s, whose first k bytes are passed over
unfoldable pub chars_from : ℕ → List ℕ → Chars
chars_from k [] = finished
chars_from (suc k) (b ∷ s) = chars_from k s
chars_from zero (b ∷ s) =
    pick (leb 1 (width (b ∷ s)))
    (char (width (b ∷ s)) (parts (scalar (take (width (b ∷ s)) (b ∷ s)))) (devanagari (scalar (take (width (b ∷ s)) (b ∷ s)))) (chars_from (width (b ∷ s) - 1) s))
    broken

-- the run from byte a up to byte e, where it holds a character in the range, before the others
abbrev pub kept : Bool → ℕ → ℕ → List Span → List Span
kept true a e ts = span a e ∷ ts
kept false a e ts = ts

-- the tokens from byte `at` on, where a run began at byte `start`, which holds such a character or not
unfoldable pub scan : (start at : ℕ) (held : Bool) → Chars → List Span
scan start at held finished = kept held start at []
scan start at held broken = []
scan start at held (char n p d cs) = pick p (kept held start at (scan (at + n) (at + n) false cs)) (scan start (at + n) (held || d) cs)

-- the tokens of s; where s is not UTF-8, those that end before the first byte that begins no character
unfoldable pub tokens_of : List ℕ → List Span
tokens_of s = scan 0 0 false (chars_from 0 s)
