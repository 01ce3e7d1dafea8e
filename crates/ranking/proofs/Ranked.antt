-- Rank by keys, as the library's orders compare them. The proof of `ahead` cites these. Assumes nothing.
use Rattle.std.proofs.Common.{◌≡◌, ℕ, Bool, List, refl, sym, ap, ◌∙◌, arith}
use Rattle.std.specs.declared.cmp.Ordering.{Ordering}
use Rattle.std.specs.declared.cmp.Ordering.TheVariants.{Less, Equal, Greater}
use Rattle.std.specs.Ordering.{is_lt, nat_cmp, ordering_then, MatchOrdering}
use Rattle.std.specs.Cmp.{nat_cmp_is}
use borrow.Author.Tests.{lt-ltb, le-ltb}
use Rattle.runs.specs.Runs.{cmp}
use Rattle.runs.proofs.Ordered.{Stand, below, above, alike, stand}
use Rattle.ranking.specs.Rank.{is_less, larger, root_text, ahead_of}
use Rattle.ranking.specs.declared.Reading.{Reading}

-- the library's `then_with`
pub with_is : {P : Type 0} (o r rest : Ordering) → MatchOrdering o (r ≡ Less) P (r ≡ Greater) → (P → r ≡ rest) → r ≡ ordering_then o rest
with_is Less r rest m f = m
with_is Equal r rest m f = f m
with_is Greater r rest m f = m

then-later : (a b c : Ordering) → ordering_then (ordering_then a b) c ≡ ordering_then a (ordering_then b c)
then-later Less b c = refl
then-later Equal b c = refl
then-later Greater b c = refl

less_is : (o : Ordering) → is_lt o ≡ is_less o
less_is Less = refl
less_is Equal = refl
less_is Greater = refl

-- the larger key comes first
larger_is : (x y : ℕ) (r : Ordering) (rest : Bool) → is_lt r ≡ rest → is_lt (ordering_then (nat_cmp y x) r) ≡ larger x y rest
larger_is x y r rest e = go (stand y x)
  where
    go : Stand y x → is_lt (ordering_then (nat_cmp y x) r) ≡ larger x y rest
    go (below h) = ap (λ (o : Ordering). is_lt (ordering_then o r)) (sym (nat_cmp_is y x Less h)) ∙ rw (lt-ltb y x h) refl
    go (above h) = ap (λ (o : Ordering). is_lt (ordering_then o r)) (sym (nat_cmp_is y x Greater h)) ∙ rw (le-ltb y x (omega arith), lt-ltb x y h) refl
    go (alike h) = ap (λ (o : Ordering). is_lt (ordering_then o r)) (sym (nat_cmp_is y x Equal h)) ∙ rw (le-ltb y x (omega arith), le-ltb x y (omega arith)) e

pub ahead_is : (w : List ℕ) (a b : Reading) → is_lt (ordering_then (ordering_then (ordering_then (ordering_then
    (nat_cmp b.score a.score) (nat_cmp b.suffix_count a.suffix_count)) (nat_cmp b.prefix_count a.prefix_count)) (nat_cmp b.stem a.stem))
    (cmp (root_text w a) (root_text w b))) ≡ ahead_of w a b
unfolding ahead_of
ahead_is w a b =
    let s = nat_cmp b.score a.score in
    let c = nat_cmp b.suffix_count a.suffix_count in
    let p = nat_cmp b.prefix_count a.prefix_count in
    let t = nat_cmp b.stem a.stem in
    let r = cmp (root_text w a) (root_text w b) in
    ap is_lt (then-later (ordering_then (ordering_then s c) p) t r ∙ then-later (ordering_then s c) p (ordering_then t r) ∙ then-later s c (ordering_then p (ordering_then t r)))
    ∙ larger_is a.score b.score _ _ (larger_is a.suffix_count b.suffix_count _ _ (larger_is a.prefix_count b.prefix_count _ _ (larger_is a.stem b.stem _ _ (less_is r))))
