-- What stands in the lists of Routes: members of a map, of a choice, of rows one after the other, and of what a strip leaves. Sound,
-- Complete and Ascending cite these laws. Assumes nothing.
use Prim.Native.Nat.{ℕ, zero, suc, ◌+◌, ◌≤◌, ◌<◌}
use native.Mathlib.Omega.{arith}
use mathlib.Core.Path.{◌≡◌, refl, sym, ap, subst}
use mathlib.Core.Bool.{Bool, true, false, ◌&&◌}
use mathlib.Core.Logic.{◌⊎◌, inl, inr}
use mathlib.Core.List.Memᴰ
use mathlib.Core.List.{List, [], ◌∷◌, ◌++◌, map, Memᴰ}
use lib.ListN.{length}
use Rattle.runs.specs.Runs.{pick}
use Rattle.runs.proofs.Ordered.{Stand, below, above, alike, stand}
use Rattle.strips.specs.Suffix.{plain, shared, sheds, is_long}
use Rattle.strips.specs.Prefix.{prefix_remainder, leaves}
use Rattle.paths.specs.Chains.{Strip, text_of, left_by}
use Rattle.paths.specs.Walk.{on_left}
use Rattle.paths.proofs.Routes.{over_rows}

module _ {A B : Type 0} (f : A → B) where
  pub in_map : {a : A} {l : List A} → Memᴰ a l → Memᴰ (f a) (map f l)
  in_map (Memᴰ.head e) = Memᴰ.head (ap f e)
  in_map (Memᴰ.tail m) = Memᴰ.tail (in_map m)

  pub of_map : {b : B} (l : List A) → Memᴰ b (map f l) → (a : A) × Memᴰ a l × (b ≡ f a)
  of_map [] m = absurd (Memᴰ.not-nil m)
  of_map {b} (x ∷ l) m = go (of_map l) (Memᴰ.cases_cons m)
    where
      go : (Memᴰ b (map f l) → (a : A) × Memᴰ a l × (b ≡ f a)) → (b ≡ f x) ⊎ Memᴰ b (map f l)
          → (a : A) × Memᴰ a (x ∷ l) × (b ≡ f a)
      go r (inl e) = (x, Memᴰ.head refl, e)
      go r (inr n) = let t = r n in (t.0, Memᴰ.tail t.1, t.2)

module _ {A : Type 0} where
  pub in_pick : (b : Bool) {a : A} {l : List A} → b ≡ false → Memᴰ a l → Memᴰ a (pick b [] l)
  in_pick b e m = rw e m

  pub of_pick : (b : Bool) {a : A} (l : List A) → Memᴰ a (pick b [] l) → (b ≡ false) × Memᴰ a l
  of_pick true l m = absurd (Memᴰ.not-nil m)
  of_pick false l m = (refl, m)

  pub in_over : (f : ℕ → List A) (row n k : ℕ) {a : A} → row ≤ k → k < row + n → Memᴰ a (f k) → Memᴰ a (over_rows f row n)
  unfolding over_rows
  in_over f row zero k p q m = absurd (omega arith)
  in_over f row (suc n) k {a} p q m = go (stand row k) (λ l. in_over f (suc row) n k l (omega arith) m)
    where
      go : Stand row k → (row < k → Memᴰ a (over_rows f (suc row) n)) → Memᴰ a (f row ++ over_rows f (suc row) n)
      go (below l) r = Memᴰ.append_right (f row) (r l)
      go (above l) r = absurd (omega arith)
      go (alike e) r = Memᴰ.append_left (over_rows f (suc row) n) (subst (λ (j : ℕ). Memᴰ a (f j)) (sym e) m)

  pub of_over : (f : ℕ → List A) (row n : ℕ) {a : A} → Memᴰ a (over_rows f row n) → (k : ℕ) × (row ≤ k) × (k < row + n) × Memᴰ a (f k)
  unfolding over_rows
  of_over f row zero m = absurd (Memᴰ.not-nil m)
  of_over f row (suc n) {a} m = go (of_over f (suc row) n) (Memᴰ.append_cases (f row) m)
    where
      go : (Memᴰ a (over_rows f (suc row) n) → (k : ℕ) × (suc row ≤ k) × (k < suc row + n) × Memᴰ a (f k))
          → Memᴰ a (f row) ⊎ Memᴰ a (over_rows f (suc row) n) → (k : ℕ) × (row ≤ k) × (k < row + suc n) × Memᴰ a (f k)
      go r (inl h) = (row, omega arith, omega arith, h)
      go r (inr h) =
          let t = r h in
          let p = t.1 in
          let q = t.2 in
          (t.0, omega arith, omega arith, t.3)

  pub in_left : (f : List ℕ → List A) {a : A} (l : List (List ℕ)) (left : List ℕ) → l ≡ left ∷ [] → Memᴰ a (f left) → Memᴰ a (on_left f l)
  in_left f l left e m = rw e m

  pub of_left : (f : List ℕ → List A) {a : A} (l : List (List ℕ)) → length l ≤ 1 → Memᴰ a (on_left f l)
      → (left : List ℕ) × (l ≡ left ∷ []) × Memᴰ a (f left)
  of_left f [] h m = absurd (Memᴰ.not-nil m)
  of_left f (x ∷ []) h m = (x, refl, m)
  of_left f (x ∷ y ∷ l) h m = absurd (omega arith)

-- a strip leaves one or none

pick-few : (b : Bool) (x : List ℕ) → length (pick b (x ∷ []) []) ≤ 1
pick-few true x = omega arith
pick-few false x = omega arith

pub prefix_few : (piece form : List ℕ) → length (prefix_remainder piece form) ≤ 1
unfolding prefix_remainder
prefix_few piece form = pick-few (leaves piece form) _

pub left-few : (piece : List ℕ) (x : Strip) → length (left_by piece x) ≤ 1
unfolding plain shared
left-few piece x = go x.is_shared
  where
    go : (b : Bool) → length (pick b (shared piece (text_of x)) (plain piece (text_of x))) ≤ 1
    go true = pick-few (sheds piece (text_of x) && is_long (text_of x)) _
    go false = pick-few (sheds piece (text_of x)) _
