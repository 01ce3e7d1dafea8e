-- Worked cases: texts with a list, the number that is answered (0 for none) with the count of tokens, and what the list holds then. Every character that parts stands here, between two
-- letters, and neighbours of each that do not. Assumes nothing.
use Rattle.refusals.specs.declared.Refusal.{Refusal}
use Rattle.std.specs.Prelude.{ℕ, ◌+◌, List, [], ◌∷◌, ◌++◌, length, replicate, Err, Ok, Result}
use Rattle.refusals.specs.Refusals.{number}

pub record Case : Type 0 where
  pub text : List ℕ
  pub list : List ℕ
  pub number : ℕ
  pub count : ℕ
  pub after : List ℕ

abbrev pub case : List ℕ → List ℕ → ℕ → ℕ → List ℕ → Case
case t l n c x = record { text = t; list = l; number = n; count = c; after = x }

-- the number that is given, 0 for none, and the count
abbrev pub number_of : Result ℕ Refusal → ℕ
number_of (Ok n) = 0
number_of (Err r) = number r

abbrev pub count_of : Result ℕ Refusal → ℕ
count_of (Ok n) = n
count_of (Err r) = 0

-- क, ॥, ।, U+200D, and a list whose old numbers are told from any place
abbrev pub ka : List ℕ
ka = 0xE0 ∷ 0xA4 ∷ 0x95 ∷ []

abbrev pub double_danda : List ℕ
double_danda = 0xE0 ∷ 0xA5 ∷ 0xA5 ∷ []

abbrev pub danda : List ℕ
danda = 0xE0 ∷ 0xA5 ∷ 0xA4 ∷ []

abbrev pub joiner : List ℕ
joiner = 0xE2 ∷ 0x80 ∷ 0x8D ∷ []

abbrev pub old : List ℕ
old = 70 ∷ 71 ∷ 72 ∷ 73 ∷ 74 ∷ []

-- the character between two letters parts them
abbrev pub parted : List ℕ → Case
parted c = case (ka ++ c ++ ka) old 0 2 (0 ∷ 3 ∷ (3 + length c) ∷ (6 + length c) ∷ 74 ∷ [])

-- or stands with them in one token
abbrev pub joined : List ℕ → Case
joined c = case (ka ++ c ++ ka) old 0 1 (0 ∷ (6 + length c) ∷ 72 ∷ 73 ∷ 74 ∷ [])

-- the text is refused so, and the list is left
abbrev pub refused : List ℕ → ℕ → Case
refused t n = case t old n 0 old

unfoldable pub cases : List Case
cases =
    case [] old 0 0 old ∷
    case [] [] 0 0 [] ∷
    case (0x20 ∷ 0x2C ∷ 0x0A ∷ []) old 0 0 old ∷
    case (0x61 ∷ 0x62 ∷ []) old 0 0 old ∷
    case ka old 0 1 (0 ∷ 3 ∷ 72 ∷ 73 ∷ 74 ∷ []) ∷
    case (0x61 ∷ 0x62 ∷ 0x20 ∷ ka) old 0 1 (3 ∷ 6 ∷ 72 ∷ 73 ∷ 74 ∷ []) ∷
    case (0x61 ∷ ka ++ 0x62 ∷ []) old 0 1 (0 ∷ 5 ∷ 72 ∷ 73 ∷ 74 ∷ []) ∷
    case (0x20 ∷ 0x20 ∷ ka ++ 0x2E ∷ 0x20 ∷ ka ++ 0x2E ∷ []) old 0 2 (2 ∷ 5 ∷ 7 ∷ 10 ∷ 74 ∷ []) ∷
    case double_danda old 0 1 (0 ∷ 3 ∷ 72 ∷ 73 ∷ 74 ∷ []) ∷
    case danda old 0 0 old ∷
    case (danda ++ double_danda ++ danda) old 0 1 (3 ∷ 6 ∷ 72 ∷ 73 ∷ 74 ∷ []) ∷
    case joiner old 0 0 old ∷
    case (joiner ++ ka) old 0 1 (0 ∷ 6 ∷ 72 ∷ 73 ∷ 74 ∷ []) ∷
    -- the first and the last character of the range, and those beside it
    case (0xE0 ∷ 0xA4 ∷ 0x80 ∷ []) old 0 1 (0 ∷ 3 ∷ 72 ∷ 73 ∷ 74 ∷ []) ∷
    case (0xE0 ∷ 0xA5 ∷ 0xBF ∷ []) old 0 1 (0 ∷ 3 ∷ 72 ∷ 73 ∷ 74 ∷ []) ∷
    case (0xE0 ∷ 0xA3 ∷ 0xBF ∷ []) old 0 0 old ∷
    case (0xE0 ∷ 0xA6 ∷ 0x80 ∷ []) old 0 0 old ∷
    -- what fits and what does not
    case (ka ++ 0x20 ∷ ka) (70 ∷ 71 ∷ 72 ∷ 73 ∷ []) 0 2 (0 ∷ 3 ∷ 4 ∷ 7 ∷ []) ∷
    case (ka ++ 0x20 ∷ ka) (70 ∷ 71 ∷ 72 ∷ []) 10 0 (70 ∷ 71 ∷ 72 ∷ []) ∷
    case ka (70 ∷ []) 10 0 (70 ∷ []) ∷
    case ka [] 10 0 [] ∷
    -- not UTF-8: after a token, cut short, overlong, a surrogate, above U+10FFFF; and before 10
    refused (ka ++ 0x20 ∷ 0xFF ∷ []) 2 ∷
    refused (ka ++ 0xE0 ∷ 0xA4 ∷ []) 2 ∷
    refused (0xC0 ∷ 0xA0 ∷ []) 2 ∷
    refused (0xE0 ∷ 0x80 ∷ 0xA0 ∷ []) 2 ∷
    refused (0xED ∷ 0xA0 ∷ 0x80 ∷ []) 2 ∷
    refused (0xF4 ∷ 0x90 ∷ 0x80 ∷ 0x80 ∷ []) 2 ∷
    case (ka ++ 0x20 ∷ 0xFF ∷ []) [] 2 0 [] ∷
    -- 65,537 bytes, none of them UTF-8
    refused (replicate 65537 0xFF) 9 ∷
    case (replicate 65537 0xFF) [] 9 0 [] ∷
    -- White_Space
    parted (0x09 ∷ []) ∷
    parted (0x0A ∷ []) ∷
    parted (0x0B ∷ []) ∷
    parted (0x0C ∷ []) ∷
    parted (0x0D ∷ []) ∷
    parted (0x20 ∷ []) ∷
    parted (0xC2 ∷ 0x85 ∷ []) ∷
    parted (0xC2 ∷ 0xA0 ∷ []) ∷
    parted (0xE1 ∷ 0x9A ∷ 0x80 ∷ []) ∷
    parted (0xE2 ∷ 0x80 ∷ 0x80 ∷ []) ∷
    parted (0xE2 ∷ 0x80 ∷ 0x81 ∷ []) ∷
    parted (0xE2 ∷ 0x80 ∷ 0x82 ∷ []) ∷
    parted (0xE2 ∷ 0x80 ∷ 0x83 ∷ []) ∷
    parted (0xE2 ∷ 0x80 ∷ 0x84 ∷ []) ∷
    parted (0xE2 ∷ 0x80 ∷ 0x85 ∷ []) ∷
    parted (0xE2 ∷ 0x80 ∷ 0x86 ∷ []) ∷
    parted (0xE2 ∷ 0x80 ∷ 0x87 ∷ []) ∷
    parted (0xE2 ∷ 0x80 ∷ 0x88 ∷ []) ∷
    parted (0xE2 ∷ 0x80 ∷ 0x89 ∷ []) ∷
    parted (0xE2 ∷ 0x80 ∷ 0x8A ∷ []) ∷
    parted (0xE2 ∷ 0x80 ∷ 0xA8 ∷ []) ∷
    parted (0xE2 ∷ 0x80 ∷ 0xA9 ∷ []) ∷
    parted (0xE2 ∷ 0x80 ∷ 0xAF ∷ []) ∷
    parted (0xE2 ∷ 0x81 ∷ 0x9F ∷ []) ∷
    parted (0xE3 ∷ 0x80 ∷ 0x80 ∷ []) ∷
    -- the punctuation list
    parted (0x2E ∷ []) ∷
    parted (0x2C ∷ []) ∷
    parted (0x21 ∷ []) ∷
    parted (0x3F ∷ []) ∷
    parted (0x3B ∷ []) ∷
    parted (0x3A ∷ []) ∷
    parted (0x2D ∷ []) ∷
    parted (0x28 ∷ []) ∷
    parted (0x29 ∷ []) ∷
    parted (0x5B ∷ []) ∷
    parted (0x5D ∷ []) ∷
    parted (0x7B ∷ []) ∷
    parted (0x7D ∷ []) ∷
    parted (0x22 ∷ []) ∷
    parted (0x27 ∷ []) ∷
    parted (0x2F ∷ []) ∷
    parted (0xE2 ∷ 0x80 ∷ 0x93 ∷ []) ∷
    parted (0xE2 ∷ 0x80 ∷ 0x94 ∷ []) ∷
    parted (0xE0 ∷ 0xA5 ∷ 0xA4 ∷ []) ∷
    parted (0xE2 ∷ 0x80 ∷ 0xA6 ∷ []) ∷
    parted (0xE2 ∷ 0x80 ∷ 0x9C ∷ []) ∷
    parted (0xE2 ∷ 0x80 ∷ 0x9D ∷ []) ∷
    parted (0xE2 ∷ 0x80 ∷ 0x98 ∷ []) ∷
    parted (0xE2 ∷ 0x80 ∷ 0x99 ∷ []) ∷
    -- neighbours of these
    joined (0x00 ∷ []) ∷
    joined (0x08 ∷ []) ∷
    joined (0x0E ∷ []) ∷
    joined (0x1F ∷ []) ∷
    joined (0x23 ∷ []) ∷
    joined (0x26 ∷ []) ∷
    joined (0x2A ∷ []) ∷
    joined (0x2B ∷ []) ∷
    joined (0x30 ∷ []) ∷
    joined (0x39 ∷ []) ∷
    joined (0x3C ∷ []) ∷
    joined (0x3E ∷ []) ∷
    joined (0x40 ∷ []) ∷
    joined (0x5A ∷ []) ∷
    joined (0x5C ∷ []) ∷
    joined (0x5E ∷ []) ∷
    joined (0x7A ∷ []) ∷
    joined (0x7C ∷ []) ∷
    joined (0x7E ∷ []) ∷
    joined (0x7F ∷ []) ∷
    joined (0xC2 ∷ 0x84 ∷ []) ∷
    joined (0xC2 ∷ 0x86 ∷ []) ∷
    joined (0xC2 ∷ 0x9F ∷ []) ∷
    joined (0xC2 ∷ 0xA1 ∷ []) ∷
    joined (0xE0 ∷ 0xA5 ∷ 0xA3 ∷ []) ∷
    joined (0xE0 ∷ 0xA5 ∷ 0xA5 ∷ []) ∷
    joined (0xE1 ∷ 0x99 ∷ 0xBF ∷ []) ∷
    joined (0xE1 ∷ 0x9A ∷ 0x81 ∷ []) ∷
    joined (0xE1 ∷ 0xBF ∷ 0xBF ∷ []) ∷
    joined (0xE2 ∷ 0x80 ∷ 0x8B ∷ []) ∷
    joined (0xE2 ∷ 0x80 ∷ 0x8C ∷ []) ∷
    joined (0xE2 ∷ 0x80 ∷ 0x8D ∷ []) ∷
    joined (0xE2 ∷ 0x80 ∷ 0x92 ∷ []) ∷
    joined (0xE2 ∷ 0x80 ∷ 0x95 ∷ []) ∷
    joined (0xE2 ∷ 0x80 ∷ 0x97 ∷ []) ∷
    joined (0xE2 ∷ 0x80 ∷ 0x9A ∷ []) ∷
    joined (0xE2 ∷ 0x80 ∷ 0x9B ∷ []) ∷
    joined (0xE2 ∷ 0x80 ∷ 0x9E ∷ []) ∷
    joined (0xE2 ∷ 0x80 ∷ 0xA5 ∷ []) ∷
    joined (0xE2 ∷ 0x80 ∷ 0xA7 ∷ []) ∷
    joined (0xE2 ∷ 0x80 ∷ 0xAA ∷ []) ∷
    joined (0xE2 ∷ 0x80 ∷ 0xAE ∷ []) ∷
    joined (0xE2 ∷ 0x80 ∷ 0xB0 ∷ []) ∷
    joined (0xE2 ∷ 0x81 ∷ 0x9E ∷ []) ∷
    joined (0xE2 ∷ 0x81 ∷ 0xA0 ∷ []) ∷
    joined (0xE2 ∷ 0xBF ∷ 0xBF ∷ []) ∷
    joined (0xE3 ∷ 0x80 ∷ 0x81 ∷ []) ∷
    joined (0xEF ∷ 0xBB ∷ 0xBF ∷ []) ∷
    joined (0xF0 ∷ 0x9F ∷ 0x98 ∷ 0x80 ∷ []) ∷
    []
