-- Lists of which every element stands in a relation to each that comes after it, and the lists of Routes built up of such. Ascending,
-- Stable and Pigeon cite these laws. Assumes nothing.
use Prim.Native.Nat.{ℕ, zero, suc, ◌<◌}
use native.Mathlib.Omega.{arith}
use mathlib.Core.Bool.{Bool, true, false}
use mathlib.Core.Path.{refl, sym, subst}
use mathlib.Core.Logic.{⊎_elim}
use mathlib.Core.List.Memᴰ
use mathlib.Core.List.{List, [], ◌∷◌, ◌++◌, map, Memᴰ}
use Rattle.runs.specs.Runs.{pick}
use Rattle.paths.specs.Counted.{Pairwise}
use Rattle.paths.specs.Walk.{on_left}
use Rattle.paths.proofs.Routes.{over_rows}
use Rattle.paths.proofs.Members.{of_map, of_over}

module _ {A : Type 0} (R : A → A → Type 0) where
  pub pairwise_append : (xs ys : List A) → Pairwise R xs → Pairwise R ys → ((x y : A) → Memᴰ x xs → Memᴰ y ys → R x y) → Pairwise R (xs ++ ys)
  pairwise_append [] ys p q c = q
  pairwise_append (x ∷ xs) ys p q c = (
    (λ y m. ⊎_elim (p.0 y) (c x y (Memᴰ.head refl)) (Memᴰ.append_cases xs m)),
    pairwise_append xs ys p.1 q (λ a b m n. c a b (Memᴰ.tail m) n),
  )

  pub pairwise_pick : (b : Bool) (xs : List A) → Pairwise R xs → Pairwise R (pick b [] xs)
  pairwise_pick true xs p = tt
  pairwise_pick false xs p = p

  pub pairwise_left : (f : List ℕ → List A) → ((x : List ℕ) → Pairwise R (f x)) → (l : List (List ℕ)) → Pairwise R (on_left f l)
  pairwise_left f h [] = tt
  pairwise_left f h (x ∷ l) = h x

  pub pairwise_over : (f : ℕ → List A) → ((k : ℕ) → Pairwise R (f k))
      → ((i j : ℕ) (x y : A) → i < j → Memᴰ x (f i) → Memᴰ y (f j) → R x y) → (row n : ℕ) → Pairwise R (over_rows f row n)
  unfolding over_rows
  pairwise_over f h c row zero = tt
  pairwise_over f h c row (suc n) =
      pairwise_append (f row) (over_rows f (suc row) n) (h row) (pairwise_over f h c (suc row) n)
      (λ x y m l.
      let t = of_over f (suc row) n l in
      let e = t.1 in
      c row t.0 x y (omega arith) m t.3)

  pub pairwise_map : {B : Type 0} (S : B → B → Type 0) (f : B → A) (xs : List B)
      → ((x y : B) → Memᴰ x xs → Memᴰ y xs → S x y → R (f x) (f y)) → Pairwise S xs → Pairwise R (map f xs)
  pairwise_map S f [] h p = tt
  pairwise_map S f (x ∷ xs) h p = (
    (λ y m.
        let t = of_map f xs m in
        subst (R (f x)) (sym t.2) (h x t.0 (Memᴰ.head refl) (Memᴰ.tail t.1) (p.0 t.0 t.1))),
    pairwise_map S f xs (λ a b m n. h a b (Memᴰ.tail m) (Memᴰ.tail n)) p.1,
  )

  pub pairwise_weaker : (S : A → A → Type 0) (xs : List A) → ((x y : A) → S x y → R x y) → Pairwise S xs → Pairwise R xs
  pairwise_weaker S [] h p = tt
  pairwise_weaker S (x ∷ xs) h p = ((λ y m. h x y (p.0 y m)), pairwise_weaker S xs h p.1)
