-- What each way through the code comes to: the laws that the functions' own proofs cite. Assumes nothing.
use Rattle.std.specs.Prelude.{Option, Some, None}
use Rattle.std.specs.List.{position, position_or_len}
use Rattle.std.specs.Option.{unwrap_or}
use Rattle.std.proofs.lemmas.List.Sums.{prefix_len-le-length}
use mathlib.Core.Path.{◌≡◌, refl, sym, ap, ◌∙◌}
use mathlib.Core.Bool.{Bool, true, false, not, cond}
use mathlib.Core.List.{List, [], ◌∷◌}
use Prim.Native.Nat.{ℕ, suc, ◌+◌, ◌-◌, ◌≤◌}
use native.Mathlib.Omega.{arith}
use lib.ListN.{length, take, drop, length-drop}
use lib.Seq.{take_all}
use lib.Dec.{eqb, ltb}
use borrow.Author.Tests.{ltb-false}
use Rattle.runs.specs.Runs.{pick, begins_with}
use Rattle.text.specs.Characters.{opens}
use Rattle.runs.proofs.Begins.{and_right}
use Rattle.strips.specs.Suffix.{goes_on, first_length}

-- The first character: its first byte, and those up to the next that begins one.

abbrev begins : ℕ → Bool
begins b = eqb (opens b) 1

goes_place : (s : List ℕ) → goes_on s ≡ position_or_len begins s
goes_place [] = refl
goes_place (b ∷ s) = by (begins b) (goes_place s)
  where
    by : (t : Bool) → goes_on s ≡ position_or_len begins s → pick t 0 (suc (goes_on s)) ≡ cond (not t) (1 + position_or_len begins s) 0
    by true e = refl
    by false e = omega arith

goes_found : (s : List ℕ) → goes_on s ≡ unwrap_or (position begins s) (length s)
goes_found s = goes_place s ∙ by (ltb p (length s)) refl
  where
    p : ℕ
    p = position_or_len begins s

    by : (t : Bool) → ltb p (length s) ≡ t → p ≡ unwrap_or (cond t (Some p) None) (length s)
    by true e = refl
    by false e = omega (arith, ltb-false p (length s) e, prefix_len-le-length (λ x. not (begins x)) s)

-- r bytes go on with it, where o is the place of the next byte that begins one
pub first_found : (t s : List ℕ) (b r : ℕ) (o : Option ℕ) → t ≡ b ∷ s → o ≡ position (λ x. eqb (opens x) 1) s → r ≡ unwrap_or o (length s)
    → (1 + r ≡ first_length t) × (1 + r ≤ length t)
first_found t s b r o e f g =
    let p : r ≡ goes_on s = g ∙ ap (λ (x : Option ℕ). unwrap_or x (length s)) f ∙ sym (goes_found s) in
    let k : goes_on s ≤ length s = omega (arith, goes_place s, prefix_len-le-length (λ x. not (begins x)) s) in
    rw e (omega arith, omega arith)

-- A form that begins the piece is no longer.

pub begins-length : (form piece : List ℕ) → begins_with form piece ≡ true → length form ≤ length piece
begins-length [] piece e = omega arith
begins-length (x ∷ form) [] e = let z : ◌≡◌ {A = ℕ} 1 0 = cc in absurd (omega arith)
begins-length (x ∷ form) (y ∷ piece) e =
    let h = begins-length form piece (and_right (eqb x y) (begins_with form piece) e) in
    omega arith

-- what follows the form, as the code lends it
pub rest_lent : (piece form : List ℕ) → take (length piece - length form) (drop (length form) piece) ≡ drop (length form) piece
rest_lent piece form =
    let h : length (drop (length form) piece) ≤ length piece - length form = simp length-drop (omega arith) in
    take_all (length piece - length form) (drop (length form) piece) h
