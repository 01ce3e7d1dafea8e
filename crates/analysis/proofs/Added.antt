-- A root added to what has been collected, or not. The proof of `with_root` cites these. Assumes nothing.
use Prim.Native.Nat.{ℕ}
use mathlib.Core.Path.{◌≡◌}
use mathlib.Core.Bool.{true, false}
use mathlib.Core.List.{List}
use Rattle.sheet.specs.Replies.{Ask}
use Rattle.ranking.specs.Lists.{Rows, plus, plus_all}
use Rattle.paths.specs.declared.Chain.{Chain}
use Rattle.paths.specs.declared.Prefixes.{Prefixes}
use Rattle.paths.specs.Support.{is_supported, score_of}
use Rattle.analysis.specs.Places.{between, root_found}

module _ (ask : Ask) (surface : ℕ) (c : Chain) (w : List ℕ) (e b : ℕ) (prefixes : Prefixes) (a : Rows) where
  pub no-root : is_supported ask (between w b e) ≡ false → a ≡ plus_all w a (root_found ask surface c w e b prefixes)
  unfolding plus_all
  no-root h = rw h

  pub one-root : (score : ℕ) → is_supported ask (between w b e) ≡ true → score ≡ score_of ask surface (between w b e) prefixes.count c.count
      → plus w a (record { stem = e; root = b; score = score; prefixes = prefixes.rows; segments = c.segments; prefix_count = prefixes.count; suffix_count = c.count })
      ≡ plus_all w a (root_found ask surface c w e b prefixes)
  unfolding plus_all
  one-root score h q = rw (h, q)
