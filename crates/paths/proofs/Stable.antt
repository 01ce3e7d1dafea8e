-- Things put in one by one by the rank of their readings: they are a permutation of what came, none is ahead of one before it, and
-- equals stand as they came (`in_rank`). Ranked cites it for readings and for paths. Assumes nothing.
use Prim.Native.Nat.{ℕ}
use native.Mathlib.Omega.{arith}
use mathlib.Core.Path.{◌≡◌, refl, sym, ap, ◌∙◌, subst}
use mathlib.Core.Bool.{Bool, true, false}
use mathlib.Core.Logic.{◌⊎◌, inl, inr, ⊎_elim}
use mathlib.Core.List.Memᴰ
use mathlib.Core.List.{List, [], ◌∷◌, ◌++◌, map, append-nil, Memᴰ}
use Rattle.runs.specs.Runs.{pick}
use Rattle.ranking.specs.Rank.{ahead_of}
use Rattle.ranking.specs.Lists.{ranked}
use Rattle.ranking.specs.declared.Reading.{Reading}
use Rattle.paths.specs.Counted.{Pairwise}
use Rattle.paths.proofs.Ranks.{ahead_turned, ahead_passes}
use Rattle.paths.proofs.Bounded.{ranked_from, ranked_all}

-- Permutations.

module _ {A : Type 0} where
  pub data Permuted : List A → List A → Type 0 where
    same : {xs : List A} → Permuted xs xs
    skip : (x : A) {xs ys : List A} → Permuted xs ys → Permuted (x ∷ xs) (x ∷ ys)
    swap : (x y : A) {xs : List A} → Permuted (x ∷ y ∷ xs) (y ∷ x ∷ xs)
    then : {xs ys zs : List A} → Permuted xs ys → Permuted ys zs → Permuted xs zs

  permuted_behind : (rs : List A) {xs ys : List A} → Permuted xs ys → Permuted (rs ++ xs) (rs ++ ys)
  permuted_behind [] p = p
  permuted_behind (r ∷ rs) p = skip r (permuted_behind rs p)

  permuted_middle : (rs : List A) (r : A) (xs : List A) → Permuted (rs ++ (r ∷ xs)) (r ∷ rs ++ xs)
  permuted_middle [] r xs = same
  permuted_middle (x ∷ rs) r xs = then (skip x (permuted_middle rs r xs)) (swap x r)

-- b stands behind a by right: it is not ahead of a, and where neither is ahead, a came before it
abbrev pub Kept : {A : Type 0} → (A → Reading) → (A → A → Type 0) → List ℕ → A → A → Type 0
Kept g R w a b = (ahead_of w (g b) (g a) ≡ false) × (ahead_of w (g a) (g b) ≡ false → R a b)

-- rows that hold es in rank order, where R says which came before which
pub record InRank (A : Type 0) (g : A → Reading) (R : A → A → Type 0) (w : List ℕ) (es : List A) : Type 0 where
  pub rows : List A
  pub rows_are : map g rows ≡ ranked_all w (map g es)
  pub permuted : Permuted rows es
  pub kept : Pairwise (Kept g R w) rows

module _ {A : Type 0} (g : A → Reading) (R : A → A → Type 0) (w : List ℕ) where
  abbrev put : A → List A → List A
  put e [] = e ∷ []
  put e (x ∷ xs) = pick (ahead_of w (g e) (g x)) (e ∷ x ∷ xs) (x ∷ put e xs)

  abbrev put_all : List A → List A → List A
  put_all xs [] = xs
  put_all xs (e ∷ es) = put_all (put e xs) es

  put-readings : (e : A) (xs : List A) → map g (put e xs) ≡ ranked w (g e) (map g xs)
  unfolding ranked
  put-readings e [] = refl
  put-readings e (x ∷ xs) = go (ahead_of w (g e) (g x)) (put-readings e xs)
    where
      go : (b : Bool) → map g (put e xs) ≡ ranked w (g e) (map g xs)
          → map g (pick b (e ∷ x ∷ xs) (x ∷ put e xs)) ≡ pick b (g e ∷ g x ∷ map g xs) (g x ∷ ranked w (g e) (map g xs))
      go true p = refl
      go false p = ap (λ (l : List Reading). g x ∷ l) p

  all_readings : (es xs : List A) → map g (put_all xs es) ≡ ranked_from w (map g xs) (map g es)
  all_readings [] xs = refl
  all_readings (e ∷ es) xs = all_readings es (put e xs) ∙ ap (λ (l : List Reading). ranked_from w l (map g es)) (put-readings e xs)

  put_permuted : (e : A) (xs : List A) → Permuted (put e xs) (e ∷ xs)
  put_permuted e [] = same
  put_permuted e (x ∷ xs) = go (ahead_of w (g e) (g x)) (put_permuted e xs)
    where
      go : (b : Bool) → Permuted (put e xs) (e ∷ xs) → Permuted (pick b (e ∷ x ∷ xs) (x ∷ put e xs)) (e ∷ x ∷ xs)
      go true p = same
      go false p = then (skip x p) (swap x e)

  all_permuted : (es xs : List A) → Permuted (put_all xs es) (es ++ xs)
  all_permuted [] xs = same
  all_permuted (e ∷ es) xs = then (all_permuted es (put e xs)) (then (permuted_behind es (put_permuted e xs)) (permuted_middle es e xs))

  put_member : (e y : A) (xs : List A) → Memᴰ y (put e xs) → (y ≡ e) ⊎ Memᴰ y xs
  put_member e y [] m = Memᴰ.cases_cons m
  put_member e y (x ∷ xs) m = go (ahead_of w (g e) (g x)) (put_member e y xs) m
    where
      go : (b : Bool) → (Memᴰ y (put e xs) → (y ≡ e) ⊎ Memᴰ y xs) → Memᴰ y (pick b (e ∷ x ∷ xs) (x ∷ put e xs))
          → (y ≡ e) ⊎ Memᴰ y (x ∷ xs)
      go true r m = Memᴰ.cases_cons m
      go false r m =
          ⊎_elim (λ p. inr (Memᴰ.head p)) (λ n. ⊎_elim inl (λ k. inr (Memᴰ.tail k)) (r n)) (Memᴰ.cases_cons m)

  -- what is ahead of another stands before it by right
  kept-ahead : (a b : A) → ahead_of w (g a) (g b) ≡ true → Kept g R w a b
  kept-ahead a b e = (
    ahead_turned w (g a) (g b) e,
    (λ f.
        let z : ◌≡◌ {A = Bool} true false = sym e ∙ f in
        let y : ◌≡◌ {A = ℕ} 0 1 = cc in
        absurd (omega arith)),
  )

  put_keeps : (e : A) (xs : List A) → ((x : A) → Memᴰ x xs → R x e) → Pairwise (Kept g R w) xs → Pairwise (Kept g R w) (put e xs)
  put_keeps e [] h p = ((λ y m. absurd (Memᴰ.not-nil m)), tt)
  put_keeps e (x ∷ xs) h p = go (ahead_of w (g e) (g x)) refl (put_keeps e xs (λ y m. h y (Memᴰ.tail m)) p.1)
    where
      first : ahead_of w (g e) (g x) ≡ true → (y : A) → Memᴰ y (x ∷ xs) → Kept g R w e y
      first t y m =
          ⊎_elim (λ q. subst (Kept g R w e) (sym q) (kept-ahead e x t)) (λ n. kept-ahead e y (ahead_passes w (g e) (g y) (g x) t (p.0 y n).0))
          (Memᴰ.cases_cons m)

      later : ahead_of w (g e) (g x) ≡ false → (y : A) → Memᴰ y (put e xs) → Kept g R w x y
      later t y m = ⊎_elim (λ q. subst (Kept g R w x) (sym q) (t, (λ f. h x (Memᴰ.head refl)))) (p.0 y) (put_member e y xs m)

      go : (b : Bool) → ahead_of w (g e) (g x) ≡ b → Pairwise (Kept g R w) (put e xs) → Pairwise (Kept g R w) (pick b (e ∷ x ∷ xs) (x ∷ put e xs))
      go true t r = (first t, p)
      go false t r = (later t, r)

  all_keep : (es xs : List A) → ((x e : A) → Memᴰ x xs → Memᴰ e es → R x e) → Pairwise R es → Pairwise (Kept g R w) xs
      → Pairwise (Kept g R w) (put_all xs es)
  all_keep [] xs h q p = p
  all_keep (e ∷ es) xs h q p =
      all_keep es (put e xs)
      (λ x d m n.
      ⊎_elim (λ z. subst (λ (y : A). R y d) (sym z) (q.0 d n)) (λ k. h x d k (Memᴰ.tail n)) (put_member e x xs m))
      q.1 (put_keeps e xs (λ x m. h x e m (Memᴰ.head refl)) p)

  pub in_rank : (es : List A) → Pairwise R es → InRank A g R w es
  in_rank es q = record {
    rows = put_all [] es;
    rows_are = all_readings es [];
    permuted = rw (append-nil es) at (all_permuted es []);
    kept = all_keep es [] (λ x e m n. absurd (Memᴰ.not-nil m)) q tt;
  }
