-- Laws of labels by their rows: lists of labels compared. The proofs of the functions of `order` cite these. Assumes nothing.
use mathlib.Core.Path.{◌≡◌, refl, sym, ap, ap₂, ◌∙◌}
use mathlib.Core.List.{List, [], ◌∷◌, map}
use Prim.Native.Nat.{ℕ, suc, ◌<◌}
use native.Mathlib.Omega.{arith}
use lib.ListN.{length}
use Rattle.std.specs.declared.cmp.Ordering.{Ordering}
use Rattle.std.specs.declared.cmp.Ordering.TheVariants.{Less, Equal, Greater}
use Rattle.std.specs.Cmp.{ranks, nat_cmp_is}
use Rattle.std.specs.List.{find, zip}
use Rattle.std.specs.Prelude.{None, Option, Some}
use Rattle.std.specs.Cmp.Lexicographic.{slice_cmp}
use Rattle.std.specs.Option.{unwrap_or, option_cmp, MatchOption, IsSomeAnd}
use denote.Ref.{Bor}
use Rattle.decomposition.specs.Parts.{prefixes_of}
use Rattle.std.specs.Ordering.{MatchOrdering, is_ne, nat_cmp, ordering_then}
use Rattle.runs.specs.Runs.{cmp}
use Rattle.runs.proofs.Ordered.{compared}
use Rattle.roots.specs.Rank.{cmp_texts}

one_more : (n m : ℕ) → nat_cmp n m ≡ nat_cmp (suc n) (suc m)
one_more n m = nat_cmp_is (suc n) (suc m) (nat_cmp n m) (go (nat_cmp n m) (ranks n m))
  where
    go : (o : Ordering) → MatchOrdering o (n < m) (n ≡ m) (m < n) → MatchOrdering o (suc n < suc m) (suc n ≡ suc m) (suc m < suc n)
    go Less h = omega arith
    go Equal h = omega arith
    go Greater h = omega arith

module _ (f : ℕ → List ℕ) where
  abbrev pub pair_order : ℕ × ℕ → Ordering
  pair_order p = cmp (f p.0) (f p.1)

  -- the first two labels that differ decide, and where there are none the lengths
  pub labels_ordered : (a b : List ℕ) → unwrap_or (find is_ne (map pair_order (zip a b))) (nat_cmp (length a) (length b)) ≡ cmp_texts (map f a) (map f b)
  labels_ordered [] [] = refl
  labels_ordered [] (y ∷ ys) = sym (nat_cmp_is 0 (suc (length ys)) Less (omega arith))
  labels_ordered (x ∷ xs) [] = sym (nat_cmp_is (suc (length xs)) 0 Greater (omega arith))
  labels_ordered (x ∷ xs) (y ∷ ys) = by (cmp (f x) (f y)) (labels_ordered xs ys)
    where
      by : (o : Ordering) → unwrap_or (find is_ne (map pair_order (zip xs ys))) (nat_cmp (length xs) (length ys)) ≡ cmp_texts (map f xs) (map f ys)
          → unwrap_or (find is_ne (o ∷ map pair_order (zip xs ys))) (nat_cmp (suc (length xs)) (suc (length ys))) ≡ ordering_then o (cmp_texts (map f xs) (map f ys))
      by Less e = refl
      by Equal e = ap (unwrap_or (find is_ne (map pair_order (zip xs ys)))) (sym (one_more (length xs) (length ys))) ∙ e
      by Greater e = refl

-- the label of one row, where there is one, as the code has it
abbrev pub Told : (ℕ → List ℕ) → Option ℕ → Option (Bor (List ℕ)) → Type 0
Told f p x = MatchOption p (x ≡ None) (λ k. IsSomeAnd x (λ r. r.now ≡ f k))

pub options_ordered : (f : ℕ → List ℕ) (p q : Option ℕ) (x y : Option (Bor (List ℕ))) → Told f p x → Told f q y
    → option_cmp (λ u v. slice_cmp nat_cmp u.now v.now) x y ≡ cmp_texts (map f (prefixes_of p)) (map f (prefixes_of q))
options_ordered f None None None None d e = refl
options_ordered f None None None (Some y) d e = let z : ◌≡◌ {A = ℕ} 0 1 = cc in absurd (omega arith)
options_ordered f None None (Some x) y d e = let z : ◌≡◌ {A = ℕ} 0 1 = cc in absurd (omega arith)
options_ordered f None (Some m) None None d e = absurd e
options_ordered f None (Some m) None (Some y) d e = refl
options_ordered f None (Some m) (Some x) y d e = let z : ◌≡◌ {A = ℕ} 0 1 = cc in absurd (omega arith)
options_ordered f (Some k) q None y d e = absurd d
options_ordered f (Some k) None (Some x) None d e = refl
options_ordered f (Some k) None (Some x) (Some y) d e = let z : ◌≡◌ {A = ℕ} 0 1 = cc in absurd (omega arith)
options_ordered f (Some k) (Some m) (Some x) None d e = absurd e
options_ordered f (Some k) (Some m) (Some x) (Some y) d e = compared x.now y.now ∙ ap₂ cmp d e ∙ sym (alone (cmp (f k) (f m)))
  where
    alone : (o : Ordering) → ordering_then o Equal ≡ o
    alone Less = refl
    alone Equal = refl
    alone Greater = refl
