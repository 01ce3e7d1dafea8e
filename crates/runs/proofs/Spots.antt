-- Laws of `slice` and `index_of`: they are what std's `position` finds in a part of a run. Assumes nothing.
use Rattle.std.proofs.Common.{◌≡◌, ℕ, ◌+◌, ◌-◌, ◌≤◌, Bool, true, false, List, [], ◌∷◌, length, take, drop, Option, None, Some, refl, sym, ap, ◌∙◌, arith, length-take}
use Rattle.std.proofs.lemmas.List.{drop-take}
use Rattle.std.specs.List.{position, position_or_len}
use Rattle.std.specs.Option.{unwrap_or}
use Rattle.std.proofs.lemmas.List.Sums.{prefix_len-le-length}
use mathlib.Core.Bool.{cond, not}
use lib.Dec.{eqb, ltb}
use borrow.Author.Tests.{ltb-false}
use Rattle.runs.specs.Bytes.{slice, index_of, index_after}

index_place : (b : ℕ) (s : List ℕ) → index_of b s ≡ position_or_len (λ x. eqb x b) s
unfolding index_of index_after
index_place b [] = refl
index_place b (x ∷ s) = by (eqb x b) (index_place b s)
  where
    by : (t : Bool) → index_of b s ≡ position_or_len (λ x. eqb x b) s → index_after t (index_of b s) ≡ cond (not t) (1 + position_or_len (λ x. eqb x b) s) 0
    by true e = refl
    by false e = omega arith

index_found : (b : ℕ) (s : List ℕ) → index_of b s ≡ unwrap_or (position (λ x. eqb x b) s) (length s)
index_found b s = index_place b s ∙ by (ltb p (length s)) refl
  where
    p : ℕ
    p = position_or_len (λ x. eqb x b) s

    by : (t : Bool) → ltb p (length s) ≡ t → p ≡ unwrap_or (cond t (Some p) None) (length s)
    by true e = refl
    by false e = omega (arith, ltb-false p (length s) e, prefix_len-le-length (λ x. not (eqb x b)) s)

slice_part : (s : List ℕ) (from to : ℕ) → from ≤ to → slice from to s ≡ take (to - from) (drop from s)
unfolding slice
slice_part s from to h =
    let e : from + (to - from) ≡ to = omega arith in
    ap (λ (n : ℕ). drop from (take n s)) (sym e) ∙ drop-take from (to - from) s

-- the place of the first byte b from `from` on, where o is what is found in the part up to `to`
pub index_part : (s : List ℕ) (from to b r : ℕ) (o : Option ℕ) → from ≤ to → to ≤ length s
    → o ≡ position (λ x. eqb x b) (take (to - from) (drop from s)) → r ≡ unwrap_or o (length (take (to - from) (drop from s)))
    → (from + r ≡ from + index_of b (slice from to s)) × (from + r ≤ to)
index_part s from to b r o h l e f =
    let part = take (to - from) (drop from s) in
    let i : index_of b (slice from to s) ≡ index_of b part = ap (index_of b) (slice_part s from to h) in
    let p : r ≡ index_of b part = f ∙ ap (λ (x : Option ℕ). unwrap_or x (length part)) e ∙ sym (index_found b part) in
    let k : index_of b part ≤ length part = omega (arith, index_place b part, prefix_len-le-length (λ x. not (eqb x b)) part) in
    let n : length part ≤ to - from = simp length-take (omega arith) in
    (omega arith, omega arith)
