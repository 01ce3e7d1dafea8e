-- The shape of a progressive form: its three endings, the character before them, and how long such a word is at least.
-- The proofs of `is_shaped` and `find_progressive` cite it. Assumes nothing.
use mathlib.Core.Path.{◌≡◌, refl, ap, ◌∙◌}
use mathlib.Core.Bool.{Bool, true, false, ◌&&◌, ◌||◌}
use mathlib.Core.List.{List, [], ◌∷◌, ◌++◌}
use Prim.Native.Nat.{ℕ, zero, suc, ◌-◌, ◌≤◌}
use native.Mathlib.Omega.{arith}
use native.Mathlib.Nat.{sub-zero}
use lib.Seq.{take-nil}
use lib.ListN.{length, take, drop, length-take, length-append}
use Rattle.runs.specs.Runs.{begins_with, ends_in}
use Rattle.runs.proofs.Begins.{and_right, begins-front}
use Rattle.runs.proofs.Ends.{ends-fits}
use Rattle.sheet.specs.Forms.{sign_i, letter_i}
use Rattle.progressive.specs.Progressive.{raheko, raheki, raheka, letter_na, linked_of, is_shaped}
use Rattle.progressive.specs.Found.{ends_in_rahek}

-- one of two tests holds
either : {P : Type 0} (a b : Bool) → (a || b) ≡ true → (a ≡ true → P) → (b ≡ true → P) → P
either true b e f g = f refl
either false b e f g = g e

-- the first of two tests, or of three, that holds settles them
module _ (a b : Bool) where
  pub first_of : a ≡ true → true ≡ (a || b)
  first_of e = rw e

  pub second_of : a ≡ false → b ≡ (a || b)
  second_of e = rw e

module _ (a b c : Bool) where
  pub one_of : a ≡ true → true ≡ ((a || b) || c)
  one_of e = rw e

  pub two_of : a ≡ false → b ≡ true → true ≡ ((a || b) || c)
  two_of e f = rw (e, f)

  pub three_of : a ≡ false → b ≡ false → c ≡ ((a || b) || c)
  three_of e f = rw (e, f)

pub rahek-fits : (w : List ℕ) → ends_in_rahek w ≡ true → 15 ≤ length w
rahek-fits w e =
    either (ends_in raheko w || ends_in raheki w) (ends_in raheka w) e
    (λ q. either (ends_in raheko w) (ends_in raheki w) q (λ p. ends-fits raheko w p) (λ p. ends-fits raheki w p)) (λ p. ends-fits raheka w p)

module _ (w : List ℕ) where
  pub unshaped : ends_in_rahek w ≡ false → is_shaped w ≡ false
  unfolding is_shaped
  unshaped e = ap (λ (b : Bool). b && (ends_in sign_i (linked_of w) || ends_in letter_i (linked_of w))) e

  pub shaped_by : ends_in_rahek w ≡ true → is_shaped w ≡ (ends_in sign_i (linked_of w) || ends_in letter_i (linked_of w))
  unfolding is_shaped
  shaped_by e = ap (λ (b : Bool). b && (ends_in sign_i (linked_of w) || ends_in letter_i (linked_of w))) e

  pub shaped_fits : is_shaped w ≡ true → 18 ≤ length w
  unfolding is_shaped
  shaped_fits e =
      let l = length-take (length w - 15) w in
      let f : 3 ≤ length (linked_of w) =
      either (ends_in sign_i (linked_of w)) (ends_in letter_i (linked_of w)) (and_right (ends_in_rahek w) _ e)
      (λ p. ends-fits sign_i (linked_of w) p) (λ p. ends-fits letter_i (linked_of w) p) in
      omega arith

-- what begins with न has its three bytes
pub na_fits : (t : List ℕ) → begins_with letter_na t ≡ true → 3 ≤ length t
na_fits t e =
    let f : length t ≡ length (letter_na ++ drop 3 t) = ap length (begins-front letter_na t e) in
    omega (arith, length-append letter_na (drop 3 t))

-- a part of the front of a word
pub front_rest : (k m : ℕ) (w : List ℕ) → take (m - k) (drop k w) ≡ drop k (take m w)
front_rest zero m w = ap (λ (n : ℕ). take n w) (sub-zero m)
front_rest (suc k) zero w = let p : 0 - suc k ≡ 0 = omega arith in ap (λ (n : ℕ). take n (drop (suc k) w)) p
front_rest (suc k) (suc m) [] = take-nil (suc m - suc k)
front_rest (suc k) (suc m) (x ∷ w) =
    let p : suc m - suc k ≡ m - k = omega arith in
    ap (λ (n : ℕ). take n (drop k w)) p ∙ front_rest k m w
