-- Why 13 rounds are enough. The proof of `seek` cites it. Assumes nothing.
use Rattle.std.specs.Prelude.{None, Some}
use mathlib.Core.Path.{◌≡◌, refl, sym, ◌∙◌}
use mathlib.Core.Bool.{Bool, true, false}
use mathlib.Core.List.{List, [], ◌∷◌}
use Prim.Native.Nat.{ℕ, zero, suc, ◌/◌, ◌<◌}
use native.Mathlib.Omega.{arith}
use lib.ListN.{length, take, drop, get_or, length-drop, length-take}
use lib.Dec.{eqb}
use borrow.Author.Tests.{eqb-true, eqb-false}
use Rattle.runs.specs.Runs.{pick, cmp}
use Rattle.std.specs.declared.cmp.Ordering.{Ordering}
use Rattle.std.specs.declared.cmp.Ordering.TheVariants.{Less, Equal, Greater}
use Rattle.sheet.specs.Forms.{key}
use Rattle.sheet.specs.Lines.{line_at}
use Rattle.lookup.specs.Search.{place_in, judge, double, asked}
use Rattle.sheet.proofs.Accepted.{GoesUp, up_drop, up_take}
use Rattle.lookup.proofs.Halves.{place_up, place_down, place_here}

module _ (s q : List ℕ) where
  pub empty_place : (places : List ℕ) → length places ≡ 0 → place_in s places q ≡ None
  empty_place [] h = refl
  empty_place (at ∷ places) h = absurd (omega arith)

  pub enough : (k : ℕ) (last places : List ℕ) → GoesUp s last places → length places < double k → asked k s places q ≡ place_in s places q
  unfolding asked
  enough zero last places g h = sym (empty_place places (omega arith))
  enough (suc k) last places g h =
      let n = length places / 2 in
      go (eqb (length places) 0) refl (cmp (key (line_at s (get_or places n 0))) q) refl
      (λ l. enough k last (drop (suc n) places) (up_drop s last (suc n) places g) l)
      (λ l. enough k last (take n places) (up_take s last n places g) l)
    where
      go : (b : Bool) → eqb (length places) 0 ≡ b → (o : Ordering) → cmp (key (line_at s (get_or places (length places / 2) 0))) q ≡ o →
          (length (drop (suc (length places / 2)) places) < double k →
          asked k s (drop (suc (length places / 2)) places) q ≡ place_in s (drop (suc (length places / 2)) places) q) →
          (length (take (length places / 2) places) < double k →
          asked k s (take (length places / 2) places) q ≡ place_in s (take (length places / 2) places) q) →
          pick b None (judge o (asked k s (drop (suc (length places / 2)) places) q) (Some (get_or places (length places / 2) 0))
          (asked k s (take (length places / 2) places) q)) ≡ place_in s places q
      go true e o f up down = sym (empty_place places (eqb-true _ _ e))
      go false e Less f up down =
          let z : length places ≡ 0 → ⊥ = eqb-false _ _ e in
          up (simp length-drop (omega arith)) ∙ sym (place_up s q last places (length places / 2) g (omega arith) f)
      go false e Equal f up down =
          let z : length places ≡ 0 → ⊥ = eqb-false _ _ e in
          sym (place_here s q last places (length places / 2) g (omega arith) f)
      go false e Greater f up down =
          let z : length places ≡ 0 → ⊥ = eqb-false _ _ e in
          down (simp length-take (omega arith)) ∙ sym (place_down s q last places (length places / 2) g (omega arith) f)
