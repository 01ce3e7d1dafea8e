-- What a search by halves has left of numbers, whatever says how a number stands. Assumes nothing.
use Rattle.std.specs.Prelude.{ℕ, ◌+◌, ◌-◌, ◌≤◌, ◌<◌, ◌≡◌, Option, Some, None}
use Rattle.std.specs.declared.cmp.Ordering.{Ordering}
use Rattle.std.specs.declared.cmp.Ordering.TheVariants.{Less, Equal, Greater}
use Rattle.lookup.specs.declared.search.Halved.{Halved}
use Rattle.lookup.specs.Search.{double}

-- of the numbers from first on, before end, those from lo on, before hi, are left: the number before them stands below, and the number
-- behind them above. Each of the rounds has halved what is left
pub record Left (stands : ℕ → Ordering → Type 0) (first end lo hi rounds : ℕ) : Type 0 where
  pub ahead : first ≤ lo
  pub ordered : lo ≤ hi
  pub inside : hi ≤ end
  pub below : first < lo → stands (lo - 1) Less
  pub above : hi < end → stands hi Greater
  pub counted : (k : ℕ) → end - first < double k → (rounds ≤ k) × (hi - lo < double (k - rounds))
  pub fewer : rounds + (hi - lo) ≤ end - first

-- no number is left, or the search stopped at one of those left, which stands equal
abbrev pub Stopped : (ℕ → Ordering → Type 0) → ℕ → ℕ → Option ℕ → Type 0
Stopped stands lo hi None = lo ≡ hi
Stopped stands lo hi (Some i) = (lo ≤ i) × (i < hi) × stands i Equal

-- what a search among the numbers from first on, before end, gives
pub record Halves (stands : ℕ → Ordering → Type 0) (first end : ℕ) (r : Halved) : Type 0 where
  pub ahead : first ≤ r.lo
  pub inside : r.hi ≤ end
  pub below : first < r.lo → stands (r.lo - 1) Less
  pub above : r.hi < end → stands r.hi Greater
  pub stopped : Stopped stands r.lo r.hi r.found
  pub counted : (k : ℕ) → end - first < double k → r.rounds ≤ k
