-- A part of the report, and where it goes on. Assumes nothing.
use Rattle.std.specs.Prelude.{ℕ, ◌≤◌, ◌<◌, ◌≡◌, List, ◌++◌, length, take, drop}
use Rattle.sheet.specs.declared.walk.Walk.{Walk}
use Rattle.rescued.specs.Stretches.{report_over}
use Rattle.rescued.specs.Places.{ahead}

-- the n bytes that were written and the report from the walk v on are the report from the walk w on, and behind them the buffer holds what it
-- held; where a line was left, one at least was passed
pub record Parted (s : List ℕ) (w v : Walk) (old out : List ℕ) (n : ℕ) : Type 0 where
  pub size : n ≤ length out
  pub rest : drop n out ≡ drop n old
  pub joined : take n out ++ report_over (ahead s v) ≡ report_over (ahead s w)
  pub further : w.at < length s → w.at < v.at
