-- Counting by lists, for any element type: a list without repeats that holds exactly what has a property has at least n elements just
-- where there are n different things that have it (`pigeon`). Over cites it for the readings of a word. Assumes nothing.
use Prim.Native.Nat.{ℕ, zero, suc, ◌≤◌}
use native.Mathlib.Omega.{arith}
use mathlib.Core.Path.{◌≡◌, refl, sym, ap, ◌∙◌}
use mathlib.Core.Logic.{◌↔◌, ⊎_elim}
use mathlib.Core.List.Memᴰ
use mathlib.Core.List.{List, [], ◌∷◌, Memᴰ}
use lib.ListN.{length, take}
use lib.Seq.{length-take-le}
use Rattle.paths.specs.Counted.{Distinct, AtLeast}

module _ {A : Type 0} where
  -- the list without one of its elements
  abbrev removed : {x : A} (es : List A) → Memᴰ x es → List A
  removed [] m = elim m [ ]
  removed (e ∷ es) (Memᴰ.head p) = es
  removed (e ∷ es) (Memᴰ.tail m) = e ∷ removed es m

  removed_length : {x : A} (es : List A) (m : Memᴰ x es) → length es ≡ suc (length (removed es m))
  removed_length [] m = elim m [ ]
  removed_length (e ∷ es) (Memᴰ.head p) = refl
  removed_length (e ∷ es) (Memᴰ.tail m) = ap suc (removed_length es m)

  -- all others are still there
  still_in : {x y : A} (es : List A) (m : Memᴰ x es) → Memᴰ y es → (x ≡ y → ⊥) → Memᴰ y (removed es m)
  still_in [] m n d = elim m [ ]
  still_in (e ∷ es) (Memᴰ.head p) n d = ⊎_elim (λ q. absurd (d (p ∙ sym q))) (λ k. k) (Memᴰ.cases_cons n)
  still_in (e ∷ es) (Memᴰ.tail m) n d = ⊎_elim (λ q. Memᴰ.head q) (λ k. Memᴰ.tail (still_in es m k d)) (Memᴰ.cases_cons n)

  -- different things that stand in a list are no more than it has elements
  pub no_more : (xs es : List A) → Distinct xs → ((x : A) → Memᴰ x xs → Memᴰ x es) → length xs ≤ length es
  no_more [] es d h = omega arith
  no_more (x ∷ xs) es d h =
      let m = h x (Memᴰ.head refl) in
      let l = no_more xs (removed es m) d.1 (λ y n. still_in es m (h y (Memᴰ.tail n)) (d.0 y n)) in
      let k = removed_length es m in
      omega arith

  -- a front part of a list without repeats has none
  take_in : (n : ℕ) (es : List A) (x : A) → Memᴰ x (take n es) → Memᴰ x es
  take_in zero es x m = absurd (Memᴰ.not-nil m)
  take_in (suc n) [] x m = absurd (Memᴰ.not-nil m)
  take_in (suc n) (e ∷ es) x m = ⊎_elim (λ q. Memᴰ.head q) (λ k. Memᴰ.tail (take_in n es x k)) (Memᴰ.cases_cons m)

  take_distinct : (n : ℕ) (es : List A) → Distinct es → Distinct (take n es)
  take_distinct zero es d = tt
  take_distinct (suc n) [] d = tt
  take_distinct (suc n) (e ∷ es) d = ((λ y m. d.0 y (take_in n es y m)), take_distinct n es d.1)

  pub pigeon : (P : A → Type 0) (es : List A) → Distinct es → ((x : A) → Memᴰ x es → P x) → ((x : A) → P x → Memᴰ x es) → (n : ℕ)
      → (n ≤ length es) ↔ AtLeast n P
  pigeon P es d all only n = (
    (λ h. (take n es, length-take-le n es h, take_distinct n es d, (λ x m. all x (take_in n es x m)))),
    (λ t.
        let h = no_more t.0 es t.2 (λ x m. only x (t.3 x m)) in
        let e = t.1 in
        omega arith),
  )
