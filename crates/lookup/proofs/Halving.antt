-- One turn of a search by halves, whatever says how a number stands. The proof of `halve` cites it. Assumes nothing.
use Rattle.std.specs.Prelude.{Some}
use Prim.Native.Nat.{ℕ, zero, suc, ◌+◌, ◌-◌, ◌/◌, ◌≤◌, ◌<◌}
use native.Mathlib.Omega.{arith}
use mathlib.Core.Path.{◌≡◌, refl, ap}
use Rattle.std.specs.declared.cmp.Ordering.{Ordering}
use Rattle.std.specs.declared.cmp.Ordering.TheVariants.{Less, Equal, Greater}
use Rattle.lookup.specs.Search.{double}
use Rattle.lookup.specs.Halved.{Left, Halves}

-- half of what is left, in one round more
halved_once : (n m k r : ℕ) → 0 < n → m ≤ n / 2 → (r ≤ k) × (n < double (k - r)) → (r + 1 ≤ k) × (m < double (k - (r + 1)))
halved_once n m k r z h c = go (k - r) refl c.1
  where
    go : (j : ℕ) → k - r ≡ j → n < double (k - r) → (r + 1 ≤ k) × (m < double (k - (r + 1)))
    go zero e l = let d : double (k - r) ≡ 1 = ap double e in absurd (omega arith)
    go (suc j) e l =
        let d : double (k - r) ≡ double j + double j = ap double e in
        let f : k - (r + 1) ≡ j = omega arith in
        let g : double (k - (r + 1)) ≡ double j = ap double f in
        (omega arith, omega arith)

-- what was said is said of the same
pub as_said : (stands : ℕ → Ordering → Type 0) (i : ℕ) (o p : Ordering) → o ≡ p → stands i o → stands i p
as_said stands i o p f s = rw (← f) s

module _ (stands : ℕ → Ordering → Type 0) (first end lo hi rounds : ℕ) where
  pub left_all : first ≤ end → Left stands first end first end 0
  left_all h = record {
    ahead = omega arith;
    ordered = h;
    inside = omega arith;
    below = λ z. absurd (omega arith);
    above = λ z. absurd (omega arith);
    counted = λ k c. let e : k - 0 ≡ k = omega arith in (omega arith, rw e c);
    fewer = omega arith;
  }

  module _ (l : Left stands first end lo hi rounds) (t : lo < hi) where
    -- the middle one of those left
    abbrev mid : ℕ
    mid = lo + (hi - lo) / 2

    -- the search stops at it
    pub left_here : stands mid Equal → Halves stands first end (record { lo = lo; hi = hi; found = Some mid; rounds = rounds + 1 })
    left_here s = record {
      ahead = l.ahead;
      inside = l.inside;
      below = l.below;
      above = l.above;
      stopped = (omega arith, omega arith, s);
      counted = λ k c. (halved_once (hi - lo) 0 k rounds (omega arith) (omega arith) (l.counted k c)).0;
    }

    -- those behind the middle one
    pub left_up : stands mid Less → Left stands first end (mid + 1) hi (rounds + 1)
    left_up s = record {
      ahead = omega (arith, l.ahead);
      ordered = omega arith;
      inside = l.inside;
      below = λ z. let m : mid + 1 - 1 ≡ mid = omega arith in rw m s;
      above = l.above;
      counted = λ k c. halved_once (hi - lo) (hi - (mid + 1)) k rounds (omega arith) (omega arith) (l.counted k c);
      fewer = omega (arith, l.fewer);
    }

    -- those before it
    pub left_down : stands mid Greater → Left stands first end lo mid (rounds + 1)
    left_down s = record {
      ahead = l.ahead;
      ordered = omega arith;
      inside = omega (arith, l.inside);
      below = l.below;
      above = λ z. s;
      counted = λ k c. halved_once (hi - lo) (mid - lo) k rounds (omega arith) (omega arith) (l.counted k c);
      fewer = omega (arith, l.fewer);
    }
