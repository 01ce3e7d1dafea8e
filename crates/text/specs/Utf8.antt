-- What UTF-8 is, from the grammar of RFC 3629, section 4:
--     UTF8-octets = *( UTF8-char )
--     UTF8-char   = UTF8-1 / UTF8-2 / UTF8-3 / UTF8-4
-- `utf8_char` is that grammar's rows, `Octets` its sequences, and `is_utf8` the test that contracts cite, byte by byte;
-- proofs/Grammar.antt shows that the test passes exactly for the grammar's sequences. Assumes nothing.
use Rattle.std.specs.Prelude.{ℕ, suc, ◌≡◌, Bool, true, false, ◌&&◌, leb}
use mathlib.Core.List.{List, [], ◌∷◌, ◌++◌, Memᴰ}
use Rattle.runs.specs.Runs.{pick}

-- the bytes from low to high, both included
pub record Range : Type 0 where
  pub low : ℕ
  pub high : ℕ

abbrev pub from_to : ℕ → ℕ → Range
from_to a b = record { low = a; high = b }

unfoldable pub within : Range → ℕ → Bool
within r b = leb r.low b && leb b r.high

-- UTF8-tail = %x80-BF
abbrev pub tail : Range
tail = from_to 0x80 0xBF

-- the rows of UTF8-char, in the RFC's order, each a sequence of byte ranges
unfoldable pub utf8_char : List (List Range)
utf8_char =
    (from_to 0x00 0x7F ∷ []) ∷
    (from_to 0xC2 0xDF ∷ tail ∷ []) ∷
    (from_to 0xE0 0xE0 ∷ from_to 0xA0 0xBF ∷ tail ∷ []) ∷
    (from_to 0xE1 0xEC ∷ tail ∷ tail ∷ []) ∷
    (from_to 0xED 0xED ∷ from_to 0x80 0x9F ∷ tail ∷ []) ∷
    (from_to 0xEE 0xEF ∷ tail ∷ tail ∷ []) ∷
    (from_to 0xF0 0xF0 ∷ from_to 0x90 0xBF ∷ tail ∷ tail ∷ []) ∷
    (from_to 0xF1 0xF3 ∷ tail ∷ tail ∷ tail ∷ []) ∷
    (from_to 0xF4 0xF4 ∷ from_to 0x80 0x8F ∷ tail ∷ tail ∷ []) ∷
    []

-- the bytes fit the row, one in each range
abbrev pub FitsRow : List Range → List ℕ → Type 0
FitsRow [] [] = Unit {0}
FitsRow [] (b ∷ bs) = ⊥
FitsRow (r ∷ rs) [] = ⊥
FitsRow (r ∷ rs) (b ∷ bs) = (within r b ≡ true) × FitsRow rs bs

-- UTF8-octets: s is a sequence of n characters, each of which fits a row: nothing, or one such character before a sequence
pub data Octets : List ℕ → ℕ → Type 0 where
  none : Octets [] 0
  more : (row : List Range) (c rest s : List ℕ) (n : ℕ) → s ≡ c ++ rest → Memᴰ row utf8_char → FitsRow row c → Octets rest n → Octets s (suc n)

-- what a byte leaves to come: the ranges that the begun character still owes, none of them between characters; or it fits nowhere
pub data Owed : Type 0 where
  owes : List Range → Owed
  misfit : Owed

-- a character begins with b: the rest of the row whose first range holds b
unfoldable pub opened : List (List Range) → ℕ → Owed
opened [] b = misfit
opened ([] ∷ rows) b = opened rows b
opened ((r ∷ rs) ∷ rows) b = pick (within r b) (owes rs) (opened rows b)

unfoldable pub after : Owed → ℕ → Owed
after misfit b = misfit
after (owes []) b = opened utf8_char b
after (owes (r ∷ rs)) b = pick (within r b) (owes rs) misfit

unfoldable pub run : Owed → List ℕ → Owed
run o [] = o
run o (b ∷ s) = run (after o b) s

-- nothing is owed
abbrev pub whole : Owed → Bool
whole (owes []) = true
whole (owes (r ∷ rs)) = false
whole misfit = false

-- s is UTF-8
unfoldable pub is_utf8 : List ℕ → Bool
is_utf8 s = whole (run (owes []) s)
