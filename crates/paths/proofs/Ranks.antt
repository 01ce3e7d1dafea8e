-- The rank of readings is a strict order of classes: `ahead_turned`, `ahead_passes`. Cited by Stable, where readings are put in
-- rank order. Assumes nothing.
use Prim.Native.Nat.{ℕ}
use mathlib.Core.Path.{◌≡◌, refl, sym, ap, ap₂, ◌∙◌}
use mathlib.Core.Bool.{Bool, true, false}
use mathlib.Core.List.{List, [], ◌∷◌}
use lib.Dec.{ltb}
use Rattle.runs.specs.Runs.{pick, cmp}
use Rattle.std.specs.declared.cmp.Ordering.{Ordering}
use Rattle.std.specs.declared.cmp.Ordering.TheVariants.{Less, Equal, Greater}
use Rattle.runs.proofs.Ordered.{step, and_then, turned, cmp_trans, cmp_turned, cmp_equal}
use Rattle.ranking.specs.Rank.{is_less, larger, root_text, ahead_of}
use Rattle.ranking.specs.declared.Reading.{Reading}

-- the keys of which the larger comes first
abbrev keys : Reading → List ℕ
keys a = a.score ∷ a.suffix_count ∷ a.prefix_count ∷ a.stem ∷ []

-- the rank as an order: by the keys, then by the root's bytes
abbrev pub rank_order : List ℕ → Reading → Reading → Ordering
rank_order w a b = and_then (cmp (keys b) (keys a)) (cmp (root_text w a) (root_text w b))

larger_is : (x y : ℕ) (rest : Bool) (r s : Ordering) → rest ≡ is_less (and_then r s) → larger x y rest ≡ is_less (and_then (step y x r) s)
larger_is x y rest r s e = go (ltb y x) (ltb x y)
  where
    go : (b c : Bool) → pick b true (pick c false rest) ≡ is_less (and_then (pick b Less (pick c Greater r)) s)
    go true c = refl
    go false true = refl
    go false false = e

pub ahead_is : (w : List ℕ) (a b : Reading) → ahead_of w a b ≡ is_less (rank_order w a b)
unfolding ahead_of
ahead_is w a b =
    larger_is a.score b.score _ _ (cmp (root_text w a) (root_text w b))
    (larger_is a.suffix_count b.suffix_count _ _ (cmp (root_text w a) (root_text w b))
    (larger_is a.prefix_count b.prefix_count _ _ (cmp (root_text w a) (root_text w b))
    (larger_is a.stem b.stem _ _ (cmp (root_text w a) (root_text w b)) refl)))

turned_then : (x y : Ordering) → and_then (turned x) (turned y) ≡ turned (and_then x y)
turned_then Less y = refl
turned_then Equal y = refl
turned_then Greater y = refl

module _ (w : List ℕ) where
  order_turned : (a b : Reading) → rank_order w b a ≡ turned (rank_order w a b)
  order_turned a b =
      ap₂ and_then (cmp_turned (keys b) (keys a)) (cmp_turned (root_text w a) (root_text w b))
      ∙ turned_then (cmp (keys b) (keys a)) (cmp (root_text w a) (root_text w b))

  order_trans : (a b c : Reading) → rank_order w a b ≡ Less → rank_order w b c ≡ Less → rank_order w a c ≡ Less
  order_trans a b c p q = go (cmp (keys b) (keys a)) (cmp (keys c) (keys b)) refl refl p q
    where
      rest : cmp (keys c) (keys a) ≡ Less → rank_order w a c ≡ Less
      rest e = ap (λ (o : Ordering). and_then o (cmp (root_text w a) (root_text w c))) e

      go : (x y : Ordering) → cmp (keys b) (keys a) ≡ x → cmp (keys c) (keys b) ≡ y → and_then x (cmp (root_text w a) (root_text w b)) ≡ Less
          → and_then y (cmp (root_text w b) (root_text w c)) ≡ Less → rank_order w a c ≡ Less
      go Less Less d e f g = rest (cmp_trans (keys c) (keys b) (keys a) e d)
      go Less Equal d e f g = rest (ap (λ (k : List ℕ). cmp k (keys a)) (cmp_equal (keys c) (keys b) e) ∙ d)
      go Equal Less d e f g = rest (ap (cmp (keys c)) (sym (cmp_equal (keys b) (keys a) d)) ∙ e)
      go Equal Equal d e f g =
          ap (λ (o : Ordering). and_then o (cmp (root_text w a) (root_text w c)))
          (ap (λ (k : List ℕ). cmp k (keys a)) (cmp_equal (keys c) (keys b) e) ∙ d)
          ∙ cmp_trans (root_text w a) (root_text w b) (root_text w c) f g
      go Less Greater d e f g = cc
      go Equal Greater d e f g = cc
      go Greater y d e f g = cc

  order_equal : (a b c : Reading) → rank_order w b c ≡ Equal → rank_order w a b ≡ rank_order w a c
  order_equal a b c p = go (cmp (keys c) (keys b)) refl p
    where
      go : (x : Ordering) → cmp (keys c) (keys b) ≡ x → and_then x (cmp (root_text w b) (root_text w c)) ≡ Equal → rank_order w a b ≡ rank_order w a c
      go Equal d e =
          ap₂ (λ (k r : List ℕ). and_then (cmp k (keys a)) (cmp (root_text w a) r)) (sym (cmp_equal (keys c) (keys b) d))
          (cmp_equal (root_text w b) (root_text w c) e)
      go Less d e = cc
      go Greater d e = cc

  less_of : (o : Ordering) → is_less o ≡ true → o ≡ Less
  less_of Less e = refl
  less_of Equal e = cc
  less_of Greater e = cc

  -- of two readings at most one is ahead
  pub ahead_turned : (a b : Reading) → ahead_of w a b ≡ true → ahead_of w b a ≡ false
  ahead_turned a b e =
      ahead_is w b a ∙ ap is_less (order_turned a b ∙ ap turned (less_of (rank_order w a b) (sym (ahead_is w a b) ∙ e)))

  -- what is ahead of c is ahead of all that are not
  pub ahead_passes : (a b c : Reading) → ahead_of w a c ≡ true → ahead_of w b c ≡ false → ahead_of w a b ≡ true
  ahead_passes a b c e f =
      ahead_is w a b ∙ ap is_less (go (rank_order w b c) refl (sym (ahead_is w b c) ∙ f) (less_of (rank_order w a c) (sym (ahead_is w a c) ∙ e)))
    where
      go : (o : Ordering) → rank_order w b c ≡ o → is_less o ≡ false → rank_order w a c ≡ Less → rank_order w a b ≡ Less
      go Less d n p = cc
      go Equal d n p = order_equal a b c d ∙ p
      go Greater d n p = order_trans a c b p (order_turned b c ∙ ap turned d)
