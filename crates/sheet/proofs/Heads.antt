-- What the head of a form tells. The proof of the reader's step cites these. Assumes nothing.
use Rattle.std.specs.Prelude.{Option, Some, None}
use Prim.Native.Nat.{ℕ, ◌≤◌}
use native.Mathlib.Omega.{arith}
use mathlib.Core.Path.{◌≡◌, refl, sym, ap, subst}
use mathlib.Core.Bool.{Bool, true, false}
use mathlib.Core.List.{List, ◌++◌}
use lib.ListN.{length, drop, get_or}
use lib.Dec.{eqb}
use borrow.Author.Tests.{eqb-true}
use Rattle.runs.specs.Runs.{pick, begins_with}
use Rattle.runs.proofs.Begins.{begins-front}
use Rattle.sheet.specs.Forms.{Entry, entry_of, is_form, is_meant}
use Rattle.sheet.specs.Steps.{head_with, head_of}
use Rattle.sheet.proofs.Shape.{no-head, unmeant}

-- a head at the front of t: its letter is t's second byte, and t has at least its three bytes
module _ (t : List ℕ) (l : ℕ) (h : begins_with (head_with l) t ≡ true) where
  split : t ≡ head_with l ++ drop 3 t
  split = begins-front (head_with l) t h

  pub letter_is : get_or t 1 0 ≡ l
  letter_is = ap (λ (x : List ℕ). get_or x 1 0) split

  pub head-fits : 3 ≤ length t
  head-fits = let n : length t ≡ length (head_with l ++ drop 3 t) = ap length split in omega arith

-- the letter that `head_of` gives, where it gives one, is that of the head
pub headed : (t : List ℕ) (l : ℕ) → head_of t ≡ Some l → begins_with (head_with l) t ≡ true
unfolding head_of
headed t l = by (begins_with (head_with 0x77) t) (begins_with (head_with 0x6C) t) (begins_with (head_with 0x6B) t) refl refl refl
  where
    by : (w k j : Bool) → begins_with (head_with 0x77) t ≡ w → begins_with (head_with 0x6C) t ≡ k → begins_with (head_with 0x6B) t ≡ j
        → pick w (Some 0x77) (pick k (Some 0x6C) (pick j (Some 0x6B) None)) ≡ Some l → begins_with (head_with l) t ≡ true
    by true k j p q r e = let n : 0x77 ≡ l = cc in subst (λ (x : ℕ). begins_with (head_with x) t ≡ true) n p
    by false true j p q r e = let n : 0x6C ≡ l = cc in subst (λ (x : ℕ). begins_with (head_with x) t ≡ true) n q
    by false false true p q r e = let n : 0x6B ≡ l = cc in subst (λ (x : ℕ). begins_with (head_with x) t ≡ true) n r
    by false false false p q r e = let z : ◌≡◌ {A = ℕ} 0 1 = cc in absurd (omega arith)

-- a letter other than k, l and w means nothing
strange_letter : (e : Entry) → eqb e.letter 0x6B ≡ false → eqb e.letter 0x6C ≡ false → eqb e.letter 0x77 ≡ false → is_meant e ≡ false
unfolding is_meant
strange_letter e a b c = rw (a, b, c)

second : (t : List ℕ) → (entry_of t).letter ≡ get_or t 1 0
unfolding entry_of
second t = refl

-- where no head stands, no form does
pub headless : (t : List ℕ) → head_of t ≡ None → is_form t ≡ false
unfolding head_of
headless t = by (begins_with (head_with 0x77) t) (begins_with (head_with 0x6C) t) (begins_with (head_with 0x6B) t) refl refl refl
  where
    lost : (l : ℕ) → eqb (get_or t 1 0) l ≡ true → begins_with (head_with l) t ≡ false → is_form t ≡ false
    lost l e f = no-head t (subst (λ (x : ℕ). begins_with (head_with x) t ≡ false) (sym (eqb-true (get_or t 1 0) l e)) f)

    same : (l : ℕ) → eqb (get_or t 1 0) l ≡ false → eqb (entry_of t).letter l ≡ false
    same l = subst (λ (x : ℕ). eqb x l ≡ false) (sym (second t))

    strange : (k l w : Bool) → eqb (get_or t 1 0) 0x6B ≡ k → eqb (get_or t 1 0) 0x6C ≡ l → eqb (get_or t 1 0) 0x77 ≡ w
        → begins_with (head_with 0x77) t ≡ false → begins_with (head_with 0x6C) t ≡ false → begins_with (head_with 0x6B) t ≡ false → is_form t ≡ false
    strange true l w a b c p q r = lost 0x6B a r
    strange false true w a b c p q r = lost 0x6C b q
    strange false false true a b c p q r = lost 0x77 c p
    strange false false false a b c p q r = unmeant t (strange_letter (entry_of t) (same 0x6B a) (same 0x6C b) (same 0x77 c))

    by : (w k j : Bool) → begins_with (head_with 0x77) t ≡ w → begins_with (head_with 0x6C) t ≡ k → begins_with (head_with 0x6B) t ≡ j
        → ◌≡◌ {A = Option ℕ} (pick w (Some 0x77) (pick k (Some 0x6C) (pick j (Some 0x6B) None))) None → is_form t ≡ false
    by true k j p q r e = let z : ◌≡◌ {A = ℕ} 0 1 = cc in absurd (omega arith)
    by false true j p q r e = let z : ◌≡◌ {A = ℕ} 0 1 = cc in absurd (omega arith)
    by false false true p q r e = let z : ◌≡◌ {A = ℕ} 0 1 = cc in absurd (omega arith)
    by false false false p q r e = strange _ _ _ refl refl refl p q r
