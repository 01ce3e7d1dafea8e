-- What a case is of the text that it is taken from. Assumes nothing.
use Rattle.std.specs.Prelude.{ℕ, ◌+◌, ◌≤◌, ◌<◌, ◌≡◌, List, ◌++◌, length, take, drop}

-- the rest is what is left of s from a later byte on
pub record Behind (s rest : List ℕ) : Type 0 where
  pub next : ℕ
  pub left : rest ≡ drop next s
  pub shorter : 0 < length s → length rest < length s

-- the word and right behind it the sheet stand in s, and the rest is what is left of it behind them and at most one byte more
pub record CutFrom (s word sheet rest : List ℕ) : Type 0 where
  pub start : ℕ
  pub case : take (length word + length sheet) (drop start s) ≡ word ++ sheet
  pub next : ℕ
  pub left : rest ≡ drop next s
  pub from_sheet : start + (length word + length sheet) ≤ next
  pub one_more : next ≤ start + (length word + length sheet) + 1
  pub shorter : length rest < length s
