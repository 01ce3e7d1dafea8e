-- Two runs at the front of one, or at the end of one: the shorter lies in the longer. The facts of which rows match one piece cite
-- them. Assumes nothing.
use mathlib.Core.Path.{◌≡◌, refl, ap, sym, ◌∙◌}
use mathlib.Core.Bool.{Bool, true, false, ◌&&◌, ◌||◌}
use mathlib.Core.List.{List, [], ◌∷◌}
use Prim.Native.Nat.{ℕ, ◌+◌, ◌-◌, ◌≤◌, ◌<◌}
use native.Mathlib.Nat.{le_of_lt}
use native.Mathlib.Omega.{arith}
use lib.ListN.{length, drop}
use lib.Seq.{drop-drop}
use lib.Dec.{eqb, ltb}
use borrow.Author.Tests.{eqb-true, eq-eqb, ltb-true, ltb-false}
use Rattle.runs.specs.Runs.{begins_with, ends_in}
use Rattle.runs.proofs.Ordered.{same_true, same_refl}
use Rattle.runs.proofs.Begins.{and_left, and_right}
use Rattle.runs.proofs.Ends.{ends-fits, ends_here}

-- two numbers, by which is the greater
pub by_order : {P : Type 0} (m n : ℕ) → (m < n → P) → (n ≤ m → P) → P
by_order {P} m n less most = go (ltb m n) refl
  where
    go : (b : Bool) → ltb m n ≡ b → P
    go true e = less (ltb-true m n e)
    go false e = most (ltb-false m n e)

and_heads : (p q u v : Bool) → p ≡ true → q ≡ true → (u || v) ≡ true → (p && u || q && v) ≡ true
and_heads p q u v a b e = rw (a, b) e

pub both_begin : (a b s : List ℕ) → begins_with a s ≡ true → begins_with b s ≡ true → (begins_with a b || begins_with b a) ≡ true
both_begin [] b s p q = refl
both_begin (x ∷ a) [] s p q = refl
both_begin (x ∷ a) (y ∷ b) [] p q = cc
both_begin (x ∷ a) (y ∷ b) (z ∷ s) p q =
    let e : x ≡ z = eqb-true x z (and_left (eqb x z) (begins_with a s) p) in
    let f : y ≡ z = eqb-true y z (and_left (eqb y z) (begins_with b s) q) in
    and_heads (eqb x y) (eqb y x) (begins_with a b) (begins_with b a) (eq-eqb x y (e ∙ sym f)) (eq-eqb y x (f ∙ sym e))
    (both_begin a b s (and_right (eqb x z) (begins_with a s) p) (and_right (eqb y z) (begins_with b s) q))

-- what stands at the end
pub ends_is : (t s : List ℕ) → ends_in t s ≡ true → drop (length s - length t) s ≡ t
ends_is t s e = same_true (drop (length s - length t) s) t (sym (ends_here t s (ends-fits t s e)) ∙ e)

-- the first no longer than the second
ends_shorter : (a b s : List ℕ) → length a ≤ length b → ends_in a s ≡ true → ends_in b s ≡ true → ends_in a b ≡ true
ends_shorter a b s h p q =
    let k = ends-fits b s q in
    let n : (length s - length b) + (length b - length a) ≡ length s - length a = omega arith in
    let e : drop (length b - length a) b ≡ a =
    ap (drop (length b - length a)) (sym (ends_is b s q)) ∙ drop-drop (length b - length a) (length s - length b) s ∙ rw n (ends_is a s p) in
    ends_here a b h ∙ rw e (same_refl a)

pub both_end : (a b s : List ℕ) → ends_in a s ≡ true → ends_in b s ≡ true → (ends_in a b || ends_in b a) ≡ true
both_end a b s p q =
    by_order (length b) (length a)
    (λ l. or_right (ends_in a b) (ends_in b a) (ends_shorter b a s (le_of_lt l) q p))
    (λ l. rw (ends_shorter a b s l p q))
  where
    or_right : (a b : Bool) → b ≡ true → (a || b) ≡ true
    or_right true b e = refl
    or_right false b e = e
