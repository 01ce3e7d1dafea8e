-- Keys of a rank in their order, and the orders of std by which the code compares them. The proofs of `key_order` and `rank`
-- cite these. Assumes nothing.
use mathlib.Core.Path.{◌≡◌, refl, ap, ◌∙◌}
use mathlib.Core.Bool.{Bool, true, false}
use Rattle.std.specs.Ordering.{MatchOrdering, nat_cmp, bool_cmp, ordering_then}
use Rattle.std.specs.Cmp.{ranks}
use Prim.Native.Nat.{ℕ, ◌<◌}
use native.Mathlib.Omega.{arith}
use Rattle.std.specs.declared.cmp.Ordering.{Ordering}
use Rattle.std.specs.declared.cmp.Ordering.TheVariants.{Less, Equal, Greater}
use borrow.Author.Tests.{lt-ltb, le-ltb}
use Rattle.roots.specs.Rank.{descending, having}

-- std's `then_with` is the first that decides
pub then_is : {P : Type 0} (o x r rest : Ordering) → o ≡ x → MatchOrdering o (r ≡ Less) P (r ≡ Greater) → (P → r ≡ rest) → r ≡ ordering_then x rest
then_is {P} o x r rest e m f = go o m ∙ ap (λ (q : Ordering). ordering_then q rest) e
  where
    go : (o : Ordering) → MatchOrdering o (r ≡ Less) P (r ≡ Greater) → r ≡ ordering_then o rest
    go Less m = m
    go Equal m = f m
    go Greater m = m

pub then_later : (a b c : Ordering) → ordering_then (ordering_then a b) c ≡ ordering_then a (ordering_then b c)
then_later Less b c = refl
then_later Equal b c = refl
then_later Greater b c = refl

-- the larger number first, and having it first, as std compares them
pub descends : (a b : ℕ) → nat_cmp b a ≡ descending a b
descends a b = by (nat_cmp b a) (ranks b a)
  where
    by : (o : Ordering) → MatchOrdering o (b < a) (b ≡ a) (a < b) → o ≡ descending a b
    by Less h = rw (lt-ltb b a h)
    by Equal h = rw (le-ltb b a (omega arith), le-ltb a b (omega arith))
    by Greater h = rw (le-ltb b a (omega arith), lt-ltb a b h)

pub havings : (a b : Bool) → bool_cmp b a ≡ having a b
havings true true = refl
havings true false = refl
havings false true = refl
havings false false = refl
