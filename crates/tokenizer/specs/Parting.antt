-- Which characters part words (document 02 (a)): those of the source's punctuation list and those with Unicode's property White_Space;
-- and which make a run a word's: U+0900 to U+097F. Assumes nothing.
use Rattle.std.specs.Prelude.{ℕ, Bool, false, ◌||◌, List, [], ◌∷◌}
use Rattle.text.specs.Utf8.{Range, from_to, within}

abbrev pub one : ℕ → Range
one c = from_to c c

-- the number c lies in one of the ranges
unfoldable pub among : List Range → ℕ → Bool
among [] c = false
among (r ∷ rs) c = within r c || among rs c

-- White_Space, from Unicode's PropList
unfoldable pub white_space : List Range
white_space =
    from_to 0x09 0x0D ∷
    one 0x20 ∷
    one 0x85 ∷
    one 0xA0 ∷
    one 0x1680 ∷
    from_to 0x2000 0x200A ∷
    one 0x2028 ∷
    one 0x2029 ∷
    one 0x202F ∷
    one 0x205F ∷
    one 0x3000 ∷
    []

-- the source's `is_punctuation`, in its order: . , ! ? ; : - ( ) [ ] { } " ' / – — । … “ ” ‘ ’
unfoldable pub punctuation : List Range
punctuation =
    one 0x2E ∷
    one 0x2C ∷
    one 0x21 ∷
    one 0x3F ∷
    one 0x3B ∷
    one 0x3A ∷
    one 0x2D ∷
    one 0x28 ∷
    one 0x29 ∷
    one 0x5B ∷
    one 0x5D ∷
    one 0x7B ∷
    one 0x7D ∷
    one 0x22 ∷
    one 0x27 ∷
    one 0x2F ∷
    one 0x2013 ∷
    one 0x2014 ∷
    one 0x0964 ∷
    one 0x2026 ∷
    one 0x201C ∷
    one 0x201D ∷
    one 0x2018 ∷
    one 0x2019 ∷
    []

-- the character with the number c parts words
unfoldable pub parts : ℕ → Bool
parts c = among white_space c || among punctuation c

unfoldable pub devanagari : ℕ → Bool
devanagari c = within (from_to 0x0900 0x097F) c
