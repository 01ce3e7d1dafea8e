-- The forms of a sheet (document 01, "The sheet"). All three have one outer shape,
--     (LETTER NAME (VALUE))     and byte 0A,
-- so that a line is an entry of three parts: its first letter, its first name, and what stands in the inner parentheses.
-- Assumes nothing.
use Rattle.std.specs.Prelude.{ℕ, Bool, false, not, ◌&&◌, ◌||◌, List, [], ◌∷◌, ◌++◌, length, take, drop, get_or, eqb, leb, ltb}
use Rattle.runs.specs.Runs.{pick, same_text, begins_with, ends_in}
use Rattle.text.specs.Utf8.{is_utf8}
use Rattle.text.specs.Names.{name_run, holds_forbidden}
use Rattle.sheet.specs.Limits.{name_limit}
use Rattle.sheet.specs.Letters.{is_letters}

pub record Entry : Type 0 where
  pub letter : ℕ
  pub name : List ℕ
  pub value : List ℕ

-- the bytes of t before its first forbidden one
abbrev pub front : List ℕ → List ℕ
front t = take (name_run t) t

-- the entry that is read at the front of t: the letter after the parenthesis, the name after the space, the value after the
-- next space and parenthesis
unfoldable pub entry_of : List ℕ → Entry
entry_of t = record {
  letter = get_or t 1 0;
  name = front (drop 3 t);
  value = front (drop 2 (drop (name_run (drop 3 t)) (drop 3 t)));
}

-- the line that says an entry, with its 0A
unfoldable pub written : Entry → List ℕ
written e = 0x28 ∷ e.letter ∷ 0x20 ∷ e.name ++ (0x20 ∷ 0x28 ∷ e.value ++ (0x29 ∷ 0x29 ∷ 0x0A ∷ []))

-- SUFFIX, LINK, INFINITIVE and NAME: 1 to 210 bytes of UTF-8 without bytes 00 to 20, 28, 29, 7F
unfoldable pub is_name : List ℕ → Bool
is_name s = ltb 0 (length s) && leb (length s) name_limit && is_utf8 s && not (holds_forbidden s)

-- `post` or `comp`
unfoldable pub is_kind : List ℕ → Bool
is_kind s = same_text s (0x70 ∷ 0x6F ∷ 0x73 ∷ 0x74 ∷ []) || same_text s (0x63 ∷ 0x6F ∷ 0x6D ∷ 0x70 ∷ [])

-- ि and इ, one of which ends a link; नु, which ends an infinitive
abbrev pub sign_i : List ℕ
sign_i = 0xE0 ∷ 0xA4 ∷ 0xBF ∷ []

abbrev pub letter_i : List ℕ
letter_i = 0xE0 ∷ 0xA4 ∷ 0x87 ∷ []

abbrev pub syllable_nu : List ℕ
syllable_nu = 0xE0 ∷ 0xA4 ∷ 0xA8 ∷ 0xE0 ∷ 0xA5 ∷ 0x81 ∷ []

-- what each first letter asks of name and value: k a suffix and its kind, l a link and its infinitive, w a name and its letters
unfoldable pub is_meant : Entry → Bool
is_meant e =
    pick (eqb e.letter 0x6B) (is_kind e.value)
    (pick (eqb e.letter 0x6C) ((ends_in sign_i e.name || ends_in letter_i e.name) && is_name e.value && ends_in syllable_nu e.value)
    (pick (eqb e.letter 0x77) (is_letters e.value)
    false))

-- a form stands at the front of t: the entry read there, written out, is what stands there, and it is a good one
unfoldable pub is_form : List ℕ → Bool
is_form t = begins_with (written (entry_of t)) t && is_name (entry_of t).name && is_meant (entry_of t)

-- what lines ascend by and questions are compared with: the first letter, then the first name's bytes
abbrev pub key_of : ℕ → List ℕ → List ℕ
key_of letter name = letter ∷ name

abbrev pub key : Entry → List ℕ
key e = key_of e.letter e.name
