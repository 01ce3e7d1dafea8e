-- Bytes taken one by one: what is owed after one more, whether any is forbidden, the number of characters as a sum. The proofs of
-- `is_utf8`, `holds_forbidden` and `count` cite these. Assumes nothing.
use Prim.Native.Nat.{ℕ, ◌+◌, ◌≤◌, suc}
use native.Mathlib.Omega.{arith}
use mathlib.Core.Path.{◌≡◌, refl}
use mathlib.Core.Bool.{Bool, true, false, ◌||◌}
use mathlib.Core.List.{List, [], ◌∷◌, ◌++◌}
use lib.ListN.{length}
use Rattle.std.specs.List.{sum_by, list_any}
use Rattle.std.proofs.lemmas.List.Recursion.{is_sum_by}
use Rattle.runs.specs.Runs.{pick}
use Rattle.text.specs.Utf8.{Owed, after, run, within, tail}
use Rattle.text.specs.Characters.{opens, chars}
use Rattle.text.specs.Names.{forbidden, holds_forbidden}

pub run_none : (o : Owed) → run o [] ≡ o
unfolding run
run_none o = refl

-- one more byte
pub run_more : (o : Owed) (s : List ℕ) (b : ℕ) → run o (s ++ (b ∷ [])) ≡ after (run o s) b
unfolding run
run_more o [] b = refl
run_more o (c ∷ s) b = run_more (after o c) s b

pub forbidden_any : (s : List ℕ) → holds_forbidden s ≡ list_any forbidden s
unfolding holds_forbidden
forbidden_any [] = refl
forbidden_any (b ∷ s) = by (forbidden b) (forbidden_any s)
  where
    by : (x : Bool) → holds_forbidden s ≡ list_any forbidden s → pick x true (holds_forbidden s) ≡ (x || list_any forbidden s)
    by true h = refl
    by false h = h

pub chars_sum : (s : List ℕ) → chars s ≡ sum_by opens s
unfolding chars
chars_sum s = is_sum_by chars opens refl (λ b t. refl) s

-- a text has at most as many characters as bytes
pub chars_most : (s : List ℕ) → chars s ≤ length s
unfolding chars opens
chars_most [] = omega arith
chars_most (b ∷ s) = by (within tail b) (chars_most s)
  where
    by : (x : Bool) → chars s ≤ length s → pick x 0 1 + chars s ≤ suc (length s)
    by true h = omega arith
    by false h = omega arith
