-- What a few bytes tell of a word: that ORIGIN_TABLE does not have it, that no mark of Aagantuk or Tatsam words stands in it, that it ends in none of STRIP_SUFFIXES.
-- proofs/Ruled shows it; the code asks this first. Assumes nothing.
use Rattle.std.specs.Prelude.{ℕ, ◌-◌, ◌/◌, ◌^◌, Bool, true, false, ◌||◌, ◌≡◌, List, [], ◌∷◌, ◌++◌, length, get_or, eqb, ltb}
use Rattle.std.specs.Int.Bits.{bit_and}
use Rattle.runs.specs.Runs.{pick}

-- for the third byte of a first character, from 80 (hexadecimal) on, a bit for each last byte, from 80 on
unfoldable pub last_bytes : List ℕ
last_bytes =
    0 ∷
    0 ∷
    0 ∷
    0 ∷
    0 ∷
    0x8000000000002000 ∷
    0x800008000800 ∷
    0x4000000080000000 ∷
    0 ∷
    0 ∷
    0 ∷
    0x8000000000000002 ∷
    0 ∷
    0 ∷
    0 ∷
    0x4000000000000000 ∷
    0 ∷
    0 ∷
    0 ∷
    0 ∷
    0x800800000000 ∷
    0x8001000000000001 ∷
    0x1 ∷
    0x808000000000 ∷
    0 ∷
    0 ∷
    0x4000000000000000 ∷
    0 ∷
    0 ∷
    0x4000000000000000 ∷
    0 ∷
    0x1 ∷
    0 ∷
    0 ∷
    0 ∷
    0 ∷
    0 ∷
    0 ∷
    0x1 ∷
    0x4000800000000000 ∷
    0x80 ∷
    0 ∷
    0x810000002001 ∷
    0x10000000000 ∷
    0x4000000000000001 ∷
    0x4000000000000084 ∷
    0x4020000000000880 ∷
    0x12000000000 ∷
    0x1040000200000 ∷
    0 ∷
    0x800000000000 ∷
    0 ∷
    0 ∷
    0x4010000200000 ∷
    0x4081018000000000 ∷
    0 ∷
    0x4200805800002003 ∷
    0x1000000005 ∷
    0 ∷
    0 ∷
    0 ∷
    0 ∷
    0 ∷
    0 ∷
    []

unfoldable pub ends_listed : ℕ → ℕ → Bool
ends_listed a b =
    pick (ltb a 0x80) false (pick (ltb 0xBF a) false (pick (ltb b 0x80) false (pick (ltb 0xBF b) false
    (eqb (bit_and (get_or last_bytes (a - 0x80) 0 / (2 ^ (b - 0x80))) 1) 1))))

-- by these two bytes ORIGIN_TABLE can have the word
unfoldable pub may_list : List ℕ → Bool
may_list w = pick (ltb (length w) 3) false (ends_listed (get_or w 2 0) (get_or w (length w - 1) 0))

-- the third byte of क ज त द, which the marks of two consonants begin with
unfoldable pub opens_cluster : ℕ → Bool
opens_cluster b = pick (eqb b 0x95) true (pick (eqb b 0x9C) true (pick (eqb b 0xA4) true (eqb b 0xA6)))

-- of a character E0 A4 b: ऋ ः ष, the nukta, or one of those before a virama, by the third byte of the character after it
unfoldable pub low_mark : ℕ → ℕ → Bool
low_mark b v =
    pick (eqb b 0x8B) true (pick (eqb b 0x83) true (pick (eqb b 0xB7) true (pick (eqb b 0xBC) true (pick (eqb v 0x8D) (opens_cluster b) false))))

-- of a character E0 A5 b: ृ, or U+0958 to U+095F
unfoldable pub high_mark : ℕ → Bool
high_mark b = pick (eqb b 0x83) true (pick (ltb b 0x98) false (ltb b 0xA0))

unfoldable pub opens_mark : ℕ → ℕ → ℕ → Bool
opens_mark a b v = pick (eqb a 0xA4) (low_mark b v) (pick (eqb a 0xA5) (high_mark b) false)

-- by its first six bytes a text can begin with a mark
unfoldable pub may_open : List ℕ → Bool
may_open s = pick (eqb (get_or s 0 0) 0xE0) (opens_mark (get_or s 1 0) (get_or s 2 0) (get_or s 5 0)) false

-- each of the texts opens so, whatever follows it
abbrev pub Opens : List (List ℕ) → Type 0
Opens [] = Unit {0}
Opens (t ∷ ts) = ((rest : List ℕ) → may_open (t ++ rest) ≡ true) × Opens ts

-- some tail passes the test
abbrev pub somewhere : (List ℕ → Bool) → List ℕ → Bool
somewhere f [] = false
somewhere f (b ∷ s) = f (b ∷ s) || somewhere f s

unfoldable pub may_mark : List ℕ → Bool
may_mark w = somewhere may_open w

-- the third bytes of the last two characters of a suffix, b the last
unfoldable pub ends_strip : ℕ → ℕ → Bool
ends_strip a b =
    pick (eqb b 0xBE) (pick (eqb a 0xAE) true (eqb a 0x95))
    (pick (eqb b 0x8B) (eqb a 0x95)
    (pick (eqb b 0x87) (eqb a 0xB2)
    (pick (eqb b 0x88) (pick (eqb a 0xBE) true (eqb a 0x97))
    (pick (eqb b 0x80) (eqb a 0x95)
    (pick (eqb b 0x9F) (eqb a 0xBE)
    (pick (eqb b 0x97) (eqb a 0x81)
    (pick (eqb b 0xB0) (pick (eqb a 0xBF) true (eqb a 0x8D))
    (pick (eqb b 0xBF) (pick (eqb a 0xA4) true (eqb a 0x96))
    (pick (eqb b 0xAE) (eqb a 0x8D)
    (pick (eqb b 0x82) (eqb a 0xB0)
    (pick (eqb b 0x81) (eqb a 0xB0) false)))))))))))

-- by these two bytes the word can end in one
unfoldable pub may_strip : List ℕ → Bool
may_strip w = pick (ltb (length w) 6) false (ends_strip (get_or w (length w - 4) 0) (get_or w (length w - 1) 0))
