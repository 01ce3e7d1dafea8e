-- Laws of a name up to its space, as it is compared with a question. The proofs of `keys` cite them, and every search. Assumes nothing.
use mathlib.Core.Path.{◌≡◌, refl, sym, ap, ◌∙◌}
use mathlib.Core.Bool.{Bool, true, false}
use mathlib.Core.List.{List, [], ◌∷◌, ◌++◌, append-nil}
use Prim.Native.Nat.{ℕ, zero, suc, ◌+◌, ◌<◌, ◌≤◌}
use native.Mathlib.Omega.{arith}
use lib.ListN.{length, take, drop, get_or, drop_of_length-le, length-take}
use lib.Seq.{drop-cons}
use lib.Dec.{eqb}
use borrow.Author.Tests.{eq-eqb, ne_eqb}
use Rattle.runs.specs.Bytes.{index_of, index_after}
use Rattle.runs.specs.Runs.{cmp}
use Rattle.std.specs.Ordering.{nat_cmp}
use Rattle.std.specs.Cmp.{nat_cmp_is}
use Rattle.std.specs.declared.cmp.Ordering.{Ordering}
use Rattle.std.specs.declared.cmp.Ordering.TheVariants.{Less, Equal, Greater}
use Rattle.std.specs.Ordering.{MatchOrdering}
use Rattle.runs.proofs.Ordered.{Stand, stand, below, above, alike, step, step_less, step_greater, step_same, step_then, by_head, and_then}
use Rattle.sheet.specs.Forms.{is_form, key, key_of}
use Rattle.sheet.specs.Lines.{line_at}
use Rattle.sheet.specs.Keys.{spaced, headed}
use Rattle.sheet.proofs.Forms.{name-at}

module _ (t : List ℕ) (i : ℕ) where
  pub spaced-past : length t ≤ i → spaced (drop i t) ≡ []
  unfolding index_of index_after
  spaced-past h = rw (drop_of_length-le t h)

  pub spaced-none : i < length t → get_or t i 0 ≡ 0x20 → spaced (drop i t) ≡ []
  unfolding index_of index_after
  spaced-none h e = rw (drop-cons t i 0, eq-eqb _ _ e)

  pub spaced-cons : i < length t → (get_or t i 0 ≡ 0x20 → ⊥) → spaced (drop i t) ≡ get_or t i 0 ∷ spaced (drop (suc i) t)
  unfolding index_of index_after
  spaced-cons h e = rw (drop-cons t i 0, ne_eqb _ _ e)

pub spaced-le : (t : List ℕ) → length (spaced t) ≤ length t
spaced-le t = simp length-take (omega arith)

pub spaced-drop : (n : ℕ) (t : List ℕ) → n ≤ length (spaced t) → drop n (spaced t) ≡ spaced (drop n t)
unfolding index_of index_after
spaced-drop zero t h = refl
spaced-drop (suc n) [] h = refl
spaced-drop (suc n) (x ∷ t) h = go (eqb x 0x20) h (spaced-drop n t)
  where
    go : (c : Bool) → suc n ≤ length (take (index_after c (index_of 0x20 t)) (x ∷ t)) →
        (n ≤ length (spaced t) → drop n (spaced t) ≡ spaced (drop n t)) →
        drop (suc n) (take (index_after c (index_of 0x20 t)) (x ∷ t)) ≡ spaced (drop n t)
    go true k rest = let z : ◌≡◌ {A = ℕ} 0 1 = omega arith in (cc)
    go false k rest = rest (omega arith)

-- two bytes that differ
step_differs : (x y : ℕ) (r : Ordering) → (x ≡ y → ⊥) → step x y r ≡ nat_cmp x y
step_differs x y r d = go (stand x y)
  where
    go : Stand x y → step x y r ≡ nat_cmp x y
    go (below h) = step_less x y r h ∙ nat_cmp_is x y Less h
    go (above h) = step_greater x y r h ∙ nat_cmp_is x y Greater h
    go (alike h) = absurd (d h)

-- one look at the i-th bytes of a name and a head whose first i bytes are alike
module _ (n p : List ℕ) (i : ℕ) where
  pub head_ended : i < length p → n ≡ [] → headed n (drop i p) ≡ Less
  head_ended h e = rw (drop-cons p i 0, e)

  pub head_less : (x : ℕ) (m : List ℕ) → i < length p → n ≡ x ∷ m → x < get_or p i 0 → headed n (drop i p) ≡ Less
  head_less x m h e l = rw (drop-cons p i 0, e) (step_less _ _ _ l)

  pub head_greater : (x : ℕ) (m : List ℕ) → i < length p → n ≡ x ∷ m → get_or p i 0 < x → headed n (drop i p) ≡ Greater
  head_greater x m h e l = rw (drop-cons p i 0, e) (step_greater _ _ _ l)

  pub head_same : (x : ℕ) (m : List ℕ) → i < length p → n ≡ x ∷ m → x ≡ get_or p i 0 →
      headed n (drop i p) ≡ headed m (drop (suc i) p)
  head_same x m h e l = rw (drop-cons p i 0, e) (step_same _ _ _ l)

  pub head_differs : (x : ℕ) (m : List ℕ) → i < length p → n ≡ x ∷ m → (x ≡ get_or p i 0 → ⊥) → headed n (drop i p) ≡ nat_cmp x (get_or p i 0)
  head_differs x m h e d = rw (drop-cons p i 0, e) (step_differs x (get_or p i 0) _ d)

  pub head_all : length p ≤ i → headed n (drop i p) ≡ Equal
  head_all h = rw (drop_of_length-le p h)

pub head-parts : (n p q : List ℕ) → cmp n (p ++ q) ≡ and_then (headed n p) (cmp (drop (length p) n) q)
head-parts n [] q = refl
head-parts [] (y ∷ p) q = refl
head-parts (x ∷ n) (y ∷ p) q = ap (λ (r : Ordering). step x y r) (head-parts n p q) ∙ step_then x y _ _

pub head-fits : (n p : List ℕ) → headed n p ≡ Equal → length p ≤ length n
head-fits n [] e = omega arith
head-fits [] (y ∷ p) e = let z : ◌≡◌ {A = ℕ} 0 1 = cc in omega arith
head-fits (x ∷ n) (y ∷ p) e =
    by_head x y (headed n p) Equal e
    (λ h f. let z : ◌≡◌ {A = ℕ} 0 1 = cc in omega arith)
    (λ h f. let z : ◌≡◌ {A = ℕ} 0 1 = cc in omega arith)
    (λ h f. let z : length p ≤ length n = head-fits n p f in omega arith)

-- the order of the name at the front of t and a question of two parts, where x is what was found of the first
pub first_decides : (t p q : List ℕ) (x o : Ordering) → x ≡ headed (spaced t) p → x ≡ o →
    and_then o (cmp (drop (length p) (spaced t)) q) ≡ cmp (spaced t) (p ++ q)
first_decides t p q x o e f =
    sym (head-parts (spaced t) p q ∙ ap (λ (y : Ordering). and_then y (cmp (drop (length p) (spaced t)) q)) (sym e ∙ f))

pub first-leaves : (t p q : List ℕ) → headed (spaced t) p ≡ Equal → cmp (spaced (drop (length p) t)) q ≡ cmp (spaced t) (p ++ q)
first-leaves t p q e =
    ap (λ (m : List ℕ). cmp m q) (sym (spaced-drop (length p) t (head-fits (spaced t) p e))) ∙ first_decides t p q _ Equal refl e

pub not_equal : (o : Ordering) (r : Ordering) → (o ≡ Equal → ⊥) → and_then o r ≡ o
not_equal Less r n = refl
not_equal Greater r n = refl
not_equal Equal r n = absurd (n refl)

-- the same for a question of one part
pub name_decides : (t q : List ℕ) (x o : Ordering) → x ≡ headed (spaced t) q → x ≡ o →
    and_then o (cmp (drop (length q) (spaced t)) []) ≡ cmp (spaced t) q
name_decides t q x o e f = first_decides t q [] x o e f ∙ ap (λ (m : List ℕ). cmp (spaced t) m) (append-nil q)

pub name-leaves : (t q m : List ℕ) (x : Ordering) → x ≡ headed (spaced t) q → x ≡ Equal → spaced (drop (length q) t) ≡ m →
    cmp m [] ≡ cmp (spaced t) q
name-leaves t q m x e f g =
    ap (λ (y : List ℕ). cmp y []) (sym g) ∙ first-leaves t q [] (sym e ∙ f) ∙ ap (λ (y : List ℕ). cmp (spaced t) y) (append-nil q)

-- by the first numbers, and where they are the same by what `then_with` is given
with_step : {P : Type 0} (x y : ℕ) (o r rest : Ordering) → o ≡ nat_cmp x y → MatchOrdering o (r ≡ Less) P (r ≡ Greater) → (P → r ≡ rest) → r ≡ step x y rest
with_step x y o r rest e m f = go (stand x y)
  where
    go : Stand x y → r ≡ step x y rest
    go (below h) = let k : o ≡ Less = e ∙ sym (nat_cmp_is x y Less h) in (rw k at m) ∙ sym (step_less x y rest h)
    go (above h) = let k : o ≡ Greater = e ∙ sym (nat_cmp_is x y Greater h) in (rw k at m) ∙ sym (step_greater x y rest h)
    go (alike h) = let k : o ≡ Equal = e ∙ sym (nat_cmp_is x y Equal h) in f (rw k at m) ∙ sym (step_same x y rest h)

-- a form's line stands to a question by its letter first, then by its name
module _ (s : List ℕ) (at : ℕ) (h : is_form (drop at s) ≡ true) (letter : ℕ) (n : List ℕ) where
  pub line_same : (line_at s at).letter ≡ letter → cmp (key (line_at s at)) (key_of letter n) ≡ cmp (spaced (drop (at + 3) s)) n
  line_same e = step_same _ _ _ e ∙ ap (λ (m : List ℕ). cmp m n) (sym (name-at s at h))

  pub line_by : {P : Type 0} (o r : Ordering) → o ≡ nat_cmp (line_at s at).letter letter → MatchOrdering o (r ≡ Less) P (r ≡ Greater)
      → (P → r ≡ cmp (spaced (drop (at + 3) s)) n) → r ≡ cmp (key (line_at s at)) (key_of letter n)
  line_by o r e m f = with_step (line_at s at).letter letter o r (cmp (line_at s at).name n) e m (λ p. f p ∙ ap (λ (m : List ℕ). cmp m n) (name-at s at h))

  -- the same to all lines of the letter whose names begin with n
  pub head_by : {P : Type 0} (o r : Ordering) → o ≡ nat_cmp (line_at s at).letter letter → MatchOrdering o (r ≡ Less) P (r ≡ Greater)
      → (P → r ≡ headed (spaced (drop (at + 3) s)) n) → r ≡ headed (key (line_at s at)) (key_of letter n)
  head_by o r e m f = with_step (line_at s at).letter letter o r (headed (line_at s at).name n) e m (λ p. f p ∙ ap (λ (m : List ℕ). headed m n) (name-at s at h))

  -- a line that is one of these has the letter, and its name begins so
  pub head_line_equal : headed (key (line_at s at)) (key_of letter n) ≡ Equal → ((line_at s at).letter ≡ letter) × (headed (spaced (drop (at + 3) s)) n ≡ Equal)
  head_line_equal e =
      by_head (line_at s at).letter letter (headed (line_at s at).name n) Equal e
      (λ k f. let z : ◌≡◌ {A = ℕ} 0 1 = cc in absurd (omega arith))
      (λ k f. let z : ◌≡◌ {A = ℕ} 0 1 = cc in absurd (omega arith))
      (λ k f. (k, ap (λ (m : List ℕ). headed m n) (name-at s at h) ∙ f))
