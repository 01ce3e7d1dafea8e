-- Where a row is put in, and what is kept then. The proofs of `place` and of `Kept` cite these; what holds of every element serves the
-- list of candidates too. Assumes nothing.
use Rattle.std.proofs.Common.{◌≡◌, ℕ, suc, ◌+◌, ◌<◌, ◌≤◌, Bool, true, false, List, [], ◌∷◌, length, Option, None, Some, refl, sym, ap, ◌∙◌, arith}
use Rattle.std.specs.List.{insert, position, position_or_len}
use Rattle.std.specs.Option.{unwrap_or}
use Rattle.std.proofs.lemmas.List.Sums.{prefix_len-le-length}
use mathlib.Core.Bool.{cond, not}
use lib.Dec.{ltb}
use borrow.Author.Tests.{lt-ltb, ltb-false}
use Rattle.runs.specs.Runs.{pick}
use Rattle.ranking.specs.Rank.{ahead_of}
use Rattle.ranking.specs.Lists.{list_limit, ranked, rows, over, plus}
use Rattle.ranking.specs.declared.Reading.{Reading}

-- what `position` finds, or the end
module _ {A : Type 0} (p : A → Bool) (xs : List A) where
  pub place_fits : position_or_len p xs ≤ length xs
  place_fits = prefix_len-le-length (λ x. not (p x)) xs

  pub place_found : (n : ℕ) (o : Option ℕ) → o ≡ position p xs → n ≡ unwrap_or o (length xs) → n ≡ position_or_len p xs
  place_found n o e f = f ∙ ap (λ (q : Option ℕ). unwrap_or q (length xs)) e ∙ by (ltb (position_or_len p xs) (length xs)) refl
    where
      by : (b : Bool) → ltb (position_or_len p xs) (length xs) ≡ b → unwrap_or (cond b (Some (position_or_len p xs)) None) (length xs) ≡ position_or_len p xs
      by true q = refl
      by false q = omega (arith, ltb-false (position_or_len p xs) (length xs) q, place_fits)

-- a reading in its place by rank is put in at the first row that it is ahead of
module _ (w : List ℕ) (r : Reading) where
  ranked-put : (xs : List Reading) → ranked w r xs ≡ insert xs (position_or_len (ahead_of w r) xs) r
  unfolding ranked
  ranked-put [] = refl
  ranked-put (x ∷ xs) = by (ahead_of w r x) (ranked-put xs)
    where
      by : (b : Bool) → ranked w r xs ≡ insert xs (position_or_len (ahead_of w r) xs) r
          → pick b (r ∷ x ∷ xs) (x ∷ ranked w r xs) ≡ insert (x ∷ xs) (cond (not b) (1 + position_or_len (ahead_of w r) xs) 0) r
      by true e = refl
      by false e =
          let q : 1 + position_or_len (ahead_of w r) xs ≡ suc (position_or_len (ahead_of w r) xs) = omega arith in
          ap (λ (l : List Reading). x ∷ l) e ∙ ap (λ (k : ℕ). insert (x ∷ xs) k r) (sym q)

-- one reading more: too many already, too many now, or in its place
module _ (w : List ℕ) (r : Reading) where
  pub plus-over : over ≡ plus w over r
  unfolding plus
  plus-over = refl

  module _ (xs : List Reading) where
    pub plus_full : length xs ≡ list_limit → over ≡ plus w (rows xs) r
    unfolding plus
    plus_full e = rw e

    pub plus-room : {at : ℕ} (later : List Reading) → length xs < list_limit → later ≡ insert xs at r → at ≡ position_or_len (ahead_of w r) xs
        → rows later ≡ plus w (rows xs) r
    unfolding plus
    plus-room later h q p = rw (lt-ltb (length xs) list_limit h, q, p, ranked-put w r xs)
