-- When a byte lies in a range of RFC 3629's grammar. The proofs of `open`, `next` and `opens_one` cite these. Assumes nothing.
use Prim.Native.Nat.{ℕ, ◌≤◌, ◌<◌}
use mathlib.Core.Path.{◌≡◌}
use mathlib.Core.Bool.{true, false, and-false}
use lib.Dec.{leb}
use borrow.Author.Tests.{le-leb, lt-leb}
use Rattle.text.specs.Utf8.{Range, within}

pub inside : (r : Range) (b : ℕ) → r.low ≤ b → b ≤ r.high → within r b ≡ true
unfolding within
inside r b h k = rw (le-leb _ _ h, le-leb _ _ k)

pub below : (r : Range) (b : ℕ) → b < r.low → within r b ≡ false
unfolding within
below r b h = rw (lt-leb _ _ h)

pub above : (r : Range) (b : ℕ) → r.high < b → within r b ≡ false
unfolding within
above r b h = rw (lt-leb _ _ h) (and-false (leb r.low b))
