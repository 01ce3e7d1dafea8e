-- Laws of `begins_with`: a head taken in two parts, and what stands behind it. Crates that read a text from its front cite them.
-- Assumes nothing.
use mathlib.Core.Path.{◌≡◌, refl, sym, ap, ◌∙◌}
use mathlib.Core.Bool.{Bool, true, false, ◌&&◌}
use mathlib.Core.List.{List, [], ◌∷◌, ◌++◌}
use Prim.Native.Nat.{ℕ, ◌<◌, ◌≤◌}
use native.Mathlib.Omega.{arith}
use lib.ListN.{length, drop, take}
use lib.Dec.{eqb, leb}
use borrow.Author.Tests.{eqb-true, eq-eqb, leb-true, leb-false}
use Rattle.runs.specs.Runs.{same_text, begins_with}

pub and_assoc : (a b c : Bool) → (a && (b && c)) ≡ ((a && b) && c)
and_assoc true b c = refl
and_assoc false b c = refl

pub and_left : (a b : Bool) → (a && b) ≡ true → a ≡ true
and_left true b e = refl
and_left false b e = e

pub and_right : (a b : Bool) → (a && b) ≡ true → b ≡ true
and_right true b e = e
and_right false b e = cc

pub begins-append : (a b t : List ℕ) → begins_with (a ++ b) t ≡ (begins_with a t && begins_with b (drop (length a) t))
begins-append [] b t = refl
begins-append (x ∷ a) b [] = refl
begins-append (x ∷ a) b (y ∷ t) = ap (λ (z : Bool). eqb x y && z) (begins-append a b t) ∙ and_assoc (eqb x y) _ _

pub begins-front : (h s : List ℕ) → begins_with h s ≡ true → s ≡ h ++ drop (length h) s
begins-front [] s e = refl
begins-front (x ∷ h) [] e = cc
begins-front (x ∷ h) (y ∷ s) e =
    let p : x ≡ y = eqb-true x y (and_left _ _ e) in
    let q : s ≡ h ++ drop (length h) s = begins-front h s (and_right (eqb x y) _ e) in
    ap (λ (z : ℕ). z ∷ s) (sym p) ∙ ap (λ (l : List ℕ). x ∷ l) q

pub front-begins : (h t : List ℕ) → begins_with h (h ++ t) ≡ true
front-begins [] t = refl
front-begins (x ∷ h) t = rw (eq-eqb x x refl) (front-begins h t)

pub begins-short : (h s : List ℕ) → length s < length h → begins_with h s ≡ false
begins-short [] s l = let z : ◌≡◌ {A = ℕ} 0 1 = omega arith in (cc)
begins-short (x ∷ h) [] l = refl
begins-short (x ∷ h) (y ∷ s) l = rw (begins-short h s (omega arith)) (go (eqb x y))
  where
    go : (b : Bool) → (b && false) ≡ false
    go true = refl
    go false = refl

-- a head is the run's first bytes, as many as it has
begins_here : (h s : List ℕ) → length h ≤ length s → begins_with h s ≡ same_text h (take (length h) s)
begins_here [] s l = refl
begins_here (x ∷ h) [] l = absurd (omega arith)
begins_here (x ∷ h) (y ∷ s) l = ap (λ (z : Bool). eqb x y && z) (begins_here h s (omega arith))

pub begins_part : (h s : List ℕ) → begins_with h s ≡ (leb (length h) (length s) && same_text h (take (length h) s))
begins_part h s = by (leb (length h) (length s)) refl
  where
    by : (b : Bool) → leb (length h) (length s) ≡ b → begins_with h s ≡ (b && same_text h (take (length h) s))
    by true e = begins_here h s (leb-true _ _ e)
    by false e = begins-short h s (leb-false _ _ e)
