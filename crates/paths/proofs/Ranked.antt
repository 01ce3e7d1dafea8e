-- The rows of the list: `rank_permuted`, `rank_ordered` and `rank_came` say of any readings that they are all there, in rank order,
-- equals as they came. `path_rank` says of a word: its paths' readings in rank order, equals by the earlier path. Assumes nothing.
use Prim.Native.Nat.{ℕ, suc, ◌≤◌, ◌<◌}
use native.Mathlib.Omega.{arith}
use mathlib.Core.Path.{◌≡◌, refl, sym, ap, ◌∙◌, subst, subst₂}
use mathlib.Core.Bool.{true, false}
use mathlib.Core.Logic.{⊎_elim}
use mathlib.Core.List.Memᴰ
use mathlib.Core.List.{List, [], ◌∷◌, map, Memᴰ}
use Rattle.text.specs.Characters.{chars}
use Rattle.sheet.specs.Replies.{Ask}
use Rattle.ranking.specs.Rank.{ahead_of}
use Rattle.ranking.specs.declared.Reading.{Reading}
use Rattle.paths.specs.Chains.{Route}
use Rattle.paths.specs.Readings.{reading_of}
use Rattle.paths.specs.Walk.{word_walk}
use Rattle.paths.proofs.Routes.{routes}
use Rattle.paths.proofs.Walked.{word_is}
use Rattle.paths.specs.Counted.{Pairwise}
use Rattle.paths.proofs.Pairs.{pairwise_map}
use Rattle.paths.proofs.Ascending.{before, ascending}
use Rattle.paths.proofs.Bounded.{ranked_all}
use Rattle.paths.proofs.Stable.{Permuted, same, skip, swap, then, Kept, InRank, in_rank}

-- readings with the number at which each came

pub record Numbered : Type 0 where
  pub number : ℕ
  pub reading : Reading

abbrev pub reading_in : Numbered → Reading
reading_in e = e.reading

abbrev pub Came : Numbered → Numbered → Type 0
Came a b = a.number < b.number

abbrev pub numbered_from : ℕ → List Reading → List Numbered
numbered_from n [] = []
numbered_from n (r ∷ rs) = record { number = n; reading = r } ∷ numbered_from (suc n) rs

numbered_least : (n : ℕ) (rs : List Reading) (e : Numbered) → Memᴰ e (numbered_from n rs) → n ≤ e.number
numbered_least n [] e m = absurd (Memᴰ.not-nil m)
numbered_least n (r ∷ rs) e m =
    ⊎_elim (λ q. let z : e.number ≡ n = ap (λ (d : Numbered). d.number) q in omega arith)
    (λ k. let l = numbered_least (suc n) rs e k in omega arith) (Memᴰ.cases_cons m)

numbered_came : (n : ℕ) (rs : List Reading) → Pairwise Came (numbered_from n rs)
numbered_came n [] = tt
numbered_came n (r ∷ rs) = (numbered_least (suc n) rs, numbered_came (suc n) rs)

numbered-readings : (n : ℕ) (rs : List Reading) → map reading_in (numbered_from n rs) ≡ rs
numbered-readings n [] = refl
numbered-readings n (r ∷ rs) = ap (λ (l : List Reading). r ∷ l) (numbered-readings (suc n) rs)

-- equals stand as they came
pub rank_came : (w : List ℕ) (rs : List Reading) → InRank Numbered reading_in Came w (numbered_from 0 rs)
rank_came w rs = in_rank reading_in Came w (numbered_from 0 rs) (numbered_came 0 rs)

-- the same of the rows alone

permuted_map : {A B : Type 0} (f : A → B) {xs ys : List A} → Permuted xs ys → Permuted (map f xs) (map f ys)
permuted_map f same = same
permuted_map f (skip x p) = skip (f x) (permuted_map f p)
permuted_map f (swap x y) = swap (f x) (f y)
permuted_map f (then p q) = then (permuted_map f p) (permuted_map f q)

rows-ranked : (w : List ℕ) (rs : List Reading) → map reading_in (rank_came w rs).rows ≡ ranked_all w rs
rows-ranked w rs = (rank_came w rs).rows_are ∙ ap (ranked_all w) (numbered-readings 0 rs)

pub rank_permuted : (w : List ℕ) (rs : List Reading) → Permuted (ranked_all w rs) rs
rank_permuted w rs = subst₂ Permuted (rows-ranked w rs) (numbered-readings 0 rs) (permuted_map reading_in (rank_came w rs).permuted)

pub rank_ordered : (w : List ℕ) (rs : List Reading) → Pairwise (λ a b. ahead_of w b a ≡ false) (ranked_all w rs)
rank_ordered w rs =
    subst (Pairwise (λ a b. ahead_of w b a ≡ false)) (rows-ranked w rs)
    (pairwise_map (λ a b. ahead_of w b a ≡ false) (Kept reading_in Came w) reading_in (rank_came w rs).rows (λ a b m n k. k.0) (rank_came w rs).kept)

-- the paths of a word in rank order, equals by the earlier path
pub path_rank : (ask : Ask) (w : List ℕ) → InRank Route (reading_of ask w) (λ p q. before p q ≡ true) w (routes ask w)
path_rank ask w = in_rank (reading_of ask w) (λ p q. before p q ≡ true) w (routes ask w) (ascending ask w)

-- and their readings are the rows
pub path_rows : (ask : Ask) (w : List ℕ) → map (reading_of ask w) (path_rank ask w).rows ≡ ranked_all w (word_walk ask (chars w) w)
path_rows ask w = (path_rank ask w).rows_are ∙ ap (ranked_all w) (sym (word_is ask w))
