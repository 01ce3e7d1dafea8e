-- What the reader of names knows of a run of three-byte characters that it has passed at one go. Assumes nothing.
use Rattle.std.specs.Prelude.{ℕ, ◌+◌, ◌≤◌, ◌≡◌, List, [], length, drop, get_or}
use Rattle.text.specs.Utf8.{owes, run}
use Rattle.text.specs.Names.{name_run}
use Rattle.sheet.specs.Forms.{front}

-- E0, A0 to BF, 80 to BF stand at i
pub record Three (s : List ℕ) (i : ℕ) : Type 0 where
  pub room : i + 3 ≤ length s
  pub first : get_or s i 0 ≡ 0xE0
  pub second_low : 0xA0 ≤ get_or s (i + 1) 0
  pub second_high : get_or s (i + 1) 0 ≤ 0xBF
  pub third_low : 0x80 ≤ get_or s (i + 2) 0
  pub third_high : get_or s (i + 2) 0 ≤ 0xBF

-- the bytes of t up to b are whole characters of the name at its front
pub record Passed (t : List ℕ) (b : ℕ) : Type 0 where
  pub inside : b ≤ length t
  pub counted : b + name_run (drop b t) ≡ name_run t
  pub owed : run (owes []) (front t) ≡ run (owes []) (front (drop b t))
