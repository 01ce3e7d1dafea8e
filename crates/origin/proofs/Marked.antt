-- Laws of the marks: a scan of the word for a text, a test of the texts that a slice lends, and what the tests of the marks come to.
-- Assumes nothing.
use mathlib.Core.Path.{◌≡◌, refl, ap, ◌∙◌}
use mathlib.Core.Bool.{Bool, true, false, ◌||◌}
use mathlib.Core.List.{List, [], ◌∷◌}
use Prim.Native.Nat.{ℕ, ◌-◌, ◌≤◌}
use native.Mathlib.Omega.{arith}
use Rattle.std.proofs.Common.{Bor, map}
use Rattle.std.specs.List.{list_any}
use lib.ListN.{length, take, drop, length-drop}
use lib.Seq.{take_all}
use Rattle.runs.specs.Runs.{begins_with}
use Rattle.origin.specs.Marks.{contains, some, begins_one, contains_one}

-- what follows byte i, as the code lends it
pub rest_lent : (w : List ℕ) (i : ℕ) → take (length w - i) (drop i w) ≡ drop i w
rest_lent w i =
    let h : length (drop i w) ≤ length w - i = simp length-drop (omega arith) in
    take_all (length w - i) (drop i w) h

-- One of the texts that a slice lends.

-- a test of one of the texts that a slice lends, as the library's `any` has it
pub some_lent : (f : List ℕ → Bool) (texts : List (Bor (List ℕ))) → list_any (λ (t : Bor (List ℕ)). f t.now) texts ≡ some f (map (λ (t : Bor (List ℕ)). t.now) texts)
some_lent f [] = refl
some_lent f (t ∷ texts) = ap (λ (b : Bool). f t.now || b) (some_lent f texts)

-- whether one of them begins what follows byte i, as the code lends it
pub lent_begins : {r : Bool} (texts : List (Bor (List ℕ))) (w : List ℕ) (i : ℕ) → r ≡ list_any (λ (t : Bor (List ℕ)). begins_with t.now (take (length w - i) (drop i w))) texts
    → r ≡ begins_one (map (λ (t : Bor (List ℕ)). t.now) texts) (drop i w)
lent_begins texts w i e = e ∙ rw (rest_lent w i) (some_lent (λ (t : List ℕ). begins_with t (drop i w)) texts)

-- one text, in what follows byte i
pub alone : (t w : List ℕ) (i : ℕ) → contains_one (t ∷ []) (take (length w - i) (drop i w)) ≡ contains t (drop i w)
unfolding contains_one
alone t w i = rw (rest_lent w i) (or_nothing (contains t (drop i w)))
  where
    or_nothing : (b : Bool) → (b || false) ≡ b
    or_nothing true = refl
    or_nothing false = refl

-- The first of two tests leaves it to the second.

pub or_false : (a b : Bool) → a ≡ false → b ≡ (a || b)
or_false a b e = rw e
