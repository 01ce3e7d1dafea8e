-- A word's own questions (document 01, "The sheet"): every run of its whole characters, alone or with one of the 25 texts, नु, ्नु or
-- उनु appended; रहनु; link lines of those runs and the infinitives they name; kind lines of the 25 texts. Assumes nothing.
use Rattle.std.specs.Prelude.{ℕ, ◌<◌, ◌≡◌, true, List, [], ◌++◌, length, get_or}
use Rattle.text.specs.Utf8.{is_utf8}
use Rattle.tables.specs.Tables.{affixes}
use Rattle.sheet.specs.Forms.{syllable_nu}
use Rattle.sheet.specs.Replies.{told, Ask}
use Rattle.progressive.specs.Progressive.{rahanu, virama, letter_u}
use Rattle.paths.specs.Chains.{all_rows}

-- p is a part of w of whole characters, which may be empty
pub record Part (w p : List ℕ) : Type 0 where
  pub front : List ℕ
  pub back : List ℕ
  pub joined : w ≡ front ++ (p ++ back)
  pub front_utf8 : is_utf8 front ≡ true
  pub part_utf8 : is_utf8 p ≡ true
  pub back_utf8 : is_utf8 back ≡ true

-- a run of its whole characters
pub record Run (w p : List ℕ) : Type 0 where
  pub part : Part w p
  pub some : 0 < length p

-- the word's own questions, each a first letter and a name
pub data Own (ask : Ask) (w : List ℕ) : ℕ → List ℕ → Type 0 where
  alone : (p : List ℕ) → Run w p → Own ask w 0x77 p
  with_text : (p : List ℕ) → Run w p → (k : ℕ) → k < all_rows → Own ask w 0x77 (p ++ get_or affixes k [])
  with_nu : (p : List ℕ) → Run w p → Own ask w 0x77 (p ++ syllable_nu)
  with_virama : (p : List ℕ) → Run w p → Own ask w 0x77 (p ++ (virama ++ syllable_nu))
  with_u : (p : List ℕ) → Run w p → Own ask w 0x77 (p ++ (letter_u ++ syllable_nu))
  of_rahanu : Own ask w 0x77 rahanu
  link : (p : List ℕ) → Run w p → Own ask w 0x6C p
  infinitive : (p v : List ℕ) → Run w p → ask 0x6C p ≡ told v → Own ask w 0x77 v
  kind : (k : ℕ) → k < all_rows → Own ask w 0x6B (get_or affixes k [])
