-- Laws of the list: one candidate more, once, in its place. The proofs of the functions of `list` cite these; those that hold for any
-- element are `ranking`'s. Assumes nothing.
use Prim.Native.Nat.{ℕ, suc, ◌+◌, ◌<◌}
use native.Mathlib.Omega.{arith}
use mathlib.Core.Path.{◌≡◌, refl, sym, ap, ◌∙◌}
use mathlib.Core.Bool.{Bool, true, false, cond, not, ◌||◌}
use mathlib.Core.List.{List, [], ◌∷◌}
use lib.ListN.{length}
use borrow.Author.Tests.{lt-ltb}
use Rattle.std.specs.List.{insert, list_any, position_or_len}
use Rattle.std.specs.Ordering.{is_eq}
use Rattle.std.specs.declared.cmp.Ordering.{Ordering}
use Rattle.std.specs.declared.cmp.Ordering.TheVariants.{Less, Equal, Greater}
use Rattle.runs.specs.Runs.{pick}
use Rattle.decomposition.specs.declared.Parts.{Parts}
use Rattle.roots.specs.Rank.{key_order, ahead_of}
use Rattle.roots.specs.Lists.{holds_in, ranked, root_limit}
use Rattle.roots.specs.Room.{once_within}
use Rattle.roots.specs.declared.RootCandidate.{RootCandidate}

-- some row has the same root and labels, as std's `any` says it
pub holds_any : (w : List ℕ) (p : Parts) (xs : List RootCandidate) → holds_in w p xs ≡ list_any (λ x. is_eq (key_order w p x.parts)) xs
unfolding holds_in
holds_any w p [] = refl
holds_any w p (x ∷ xs) = by (key_order w p x.parts) (holds_any w p xs)
  where
    by : (o : Ordering) → holds_in w p xs ≡ list_any (λ x. is_eq (key_order w p x.parts)) xs
        → pick (is_eq o) true (holds_in w p xs) ≡ (is_eq o || list_any (λ x. is_eq (key_order w p x.parts)) xs)
    by Less e = e
    by Equal e = refl
    by Greater e = e

-- a candidate in its place by rank is put in at the first row that it is ahead of
module _ (w : List ℕ) (r : RootCandidate) where
  ranked-put : (xs : List RootCandidate) → ranked w r xs ≡ insert xs (position_or_len (ahead_of w r) xs) r
  unfolding ranked
  ranked-put [] = refl
  ranked-put (x ∷ xs) = by (ahead_of w r x) (ranked-put xs)
    where
      by : (b : Bool) → ranked w r xs ≡ insert xs (position_or_len (ahead_of w r) xs) r
          → pick b (r ∷ x ∷ xs) (x ∷ ranked w r xs) ≡ insert (x ∷ xs) (cond (not b) (1 + position_or_len (ahead_of w r) xs) 0) r
      by true e = refl
      by false e =
          let q : 1 + position_or_len (ahead_of w r) xs ≡ suc (position_or_len (ahead_of w r) xs) = omega arith in
          ap (λ (l : List RootCandidate). x ∷ l) e ∙ ap (λ (k : ℕ). insert (x ∷ xs) k r) (sym q)

-- one candidate more: held already, no room, or in its place
module _ (w : List ℕ) (xs : List RootCandidate) (r : RootCandidate) where
  pub once-held : true ≡ holds_in w r.parts xs → xs ≡ once_within root_limit w r xs
  unfolding once_within
  once-held e = rw (sym e)

  module _ (e : false ≡ holds_in w r.parts xs) where
    pub once_full : length xs ≡ 16 → xs ≡ once_within root_limit w r xs
    unfolding once_within
    once_full h = rw (sym e, h)

    pub once-room : (at : ℕ) (later : List RootCandidate) → length xs < 16 → at ≡ position_or_len (ahead_of w r) xs → later ≡ insert xs at r
        → later ≡ once_within root_limit w r xs
    unfolding once_within
    once-room at later h p q = rw (sym e, lt-ltb (length xs) 16 h, q, p, ranked-put w r xs)
