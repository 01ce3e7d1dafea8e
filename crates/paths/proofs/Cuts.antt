-- Bytes that a text holds, and texts cut at a byte: at the first where the text before it does not hold that byte (`first-cut`), at
-- the last where the text behind it does not (`last-cut`). Keys cites these laws. Assumes nothing.
use Prim.Native.Nat.{ℕ, zero, suc, ◌<◌}
use native.Mathlib.Omega.{arith}
use mathlib.Core.Path.{◌≡◌, refl, sym, ap, ◌∙◌}
use mathlib.Core.Bool.{Bool, true, false, ◌||◌}
use mathlib.Core.List.{List, [], ◌∷◌, ◌++◌, head-eq_of_cons-eq, tail-eq_of_cons-eq}
use lib.ListN.{length, get_or}
use lib.Dec.{eqb}
use borrow.Author.Tests.{eq-eqb}
use Rattle.tables.proofs.Facts.{holds}

never : {P : Type 0} → ◌≡◌ {A = Bool} false true → P
never e = let z : ◌≡◌ {A = ℕ} 0 1 = cc in absurd (omega arith)

or_false : (a b : Bool) → (a || b) ≡ false → (a ≡ false) × (b ≡ false)
or_false true b e = never (sym e)
or_false false b e = (refl, e)

pub holds_append : (b : ℕ) (s t : List ℕ) → holds b s ≡ false → holds b t ≡ false → holds b (s ++ t) ≡ false
holds_append b [] t p q = q
holds_append b (x ∷ s) t p q = let e = or_false (eqb b x) (holds b s) p in rw e.0 (holds_append b s t e.1 q)

holds_seam : (b : ℕ) (s t : List ℕ) → holds b (s ++ b ∷ t) ≡ true
holds_seam b [] t = rw (eq-eqb b b refl)
holds_seam b (x ∷ s) t = rw (holds_seam b s t) (go (eqb b x))
  where
    go : (a : Bool) → (a || true) ≡ true
    go true = refl
    go false = refl

pub holds_none : (b : ℕ) (s : List ℕ) (k : ℕ) → holds b s ≡ false → k < length s → get_or s k 0 ≡ b → ⊥
holds_none b [] k e h p = omega arith
holds_none b (x ∷ s) zero e h p = never (sym (or_false (eqb b x) (holds b s) e).0 ∙ eq-eqb b x (sym p))
holds_none b (x ∷ s) (suc k) e h p = holds_none b s k (or_false (eqb b x) (holds b s) e).1 (omega arith) p

-- two texts cut at the same byte, where what stands before the cut does not hold it
pub first-cut : (b : ℕ) (s t x y : List ℕ) → holds b s ≡ false → holds b t ≡ false → s ++ b ∷ x ≡ t ++ b ∷ y → (s ≡ t) × (x ≡ y)
first-cut b [] [] x y p q e = (refl, tail-eq_of_cons-eq e)
first-cut b [] (c ∷ t) x y p q e = never (sym (or_false (eqb b c) (holds b t) q).0 ∙ eq-eqb b c (head-eq_of_cons-eq e))
first-cut b (c ∷ s) [] x y p q e = never (sym (or_false (eqb b c) (holds b s) p).0 ∙ eq-eqb b c (sym (head-eq_of_cons-eq e)))
first-cut b (c ∷ s) (d ∷ t) x y p q e =
    let r = first-cut b s t x y (or_false (eqb b c) (holds b s) p).1 (or_false (eqb b d) (holds b t) q).1 (tail-eq_of_cons-eq e) in
    ((λ i. head-eq_of_cons-eq e i ∷ r.0 i), r.1)

-- or where what stands behind it does not
pub last-cut : (b : ℕ) (s t x y : List ℕ) → holds b x ≡ false → holds b y ≡ false → s ++ b ∷ x ≡ t ++ b ∷ y → (s ≡ t) × (x ≡ y)
last-cut b [] [] x y p q e = (refl, tail-eq_of_cons-eq e)
last-cut b [] (c ∷ t) x y p q e = never (sym p ∙ ap (holds b) (tail-eq_of_cons-eq e) ∙ holds_seam b t y)
last-cut b (c ∷ s) [] x y p q e = never (sym q ∙ ap (holds b) (sym (tail-eq_of_cons-eq e)) ∙ holds_seam b s x)
last-cut b (c ∷ s) (d ∷ t) x y p q e =
    let r = last-cut b s t x y p q (tail-eq_of_cons-eq e) in
    ((λ i. head-eq_of_cons-eq e i ∷ r.0 i), r.1)
