-- Laws of the remainders under one suffix with the rule of pronouns, and of the first that decompose takes. The proofs of the
-- functions of `suffixes` cite these. Assumes nothing.
use Rattle.std.specs.Prelude.{Option, None, Some}
use Rattle.std.specs.Option.{is_some}
use mathlib.Core.Path.{◌≡◌, refl, sym, ap, ◌∙◌}
use mathlib.Core.Bool.{Bool, true, false, ◌&&◌}
use mathlib.Core.List.{List, [], ◌∷◌, ◌++◌, append-nil}
use Prim.Native.Nat.{ℕ, ◌≤◌}
use native.Mathlib.Omega.{arith}
use lib.ListN.{length, take}
use Rattle.runs.specs.Runs.{pick}
use Rattle.sheet.specs.Replies.{Ask, reply, letters_told, letters_for, letters_by}
use Rattle.sheet.specs.declared.letters.Letters.{Letters}
use Rattle.strips.specs.Suffix.{sheds, is_long, plain_length, shared_length, remainders, rests_of, fronts, keeps_pronoun}
use Rattle.strips.specs.declared.suffix.Rests.{Rests}
use Rattle.strips.proofs.Remainders.{Inside, rests_say, rests_inside, shared_with_plain}
use Rattle.decomposition.specs.Strips.{is_word, is_kept, left_of, no_rests, open_rests, is_taken, first_taken}

-- the letters of a name, as the code asks for them
pub own_letters : (s name : List ℕ) (l : Letters) → l ≡ letters_for s (name ++ []) → l ≡ letters_by (reply s) name
unfolding letters_for
own_letters s name l e = e ∙ ap (λ (n : List ℕ). letters_told (reply s 0x77 n)) (append-nil name)

pub word-told : (s name : List ℕ) (l : Letters) → l ≡ letters_for s (name ++ []) → l.word ≡ is_word (reply s) name
unfolding is_word
word-told s name l e = ap (λ (x : Letters). x.word) (own_letters s name l e)

-- Remainders with the rule of pronouns.

pub none_if : (o : Option ℕ) → is_some o ≡ false → o ≡ None
none_if None e = refl
none_if (Some n) e = let z : ◌≡◌ {A = ℕ} 0 1 = cc in absurd (omega arith)

pub none_is : (r : Rests) → r.plain ≡ None → r.shared ≡ None → r ≡ no_rests
none_is r p q = same p q
  where
    same : {a b : Option ℕ} → a ≡ None → b ≡ None → ◌≡◌ {A = Rests} (record { plain = a; shared = b }) no_rests
    same p q = cc

none-counted : (piece suffix : List ℕ) → (rests_of piece suffix).plain ≡ None → rests_of piece suffix ≡ no_rests
unfolding rests_of
none-counted piece suffix e = go (sheds piece suffix) (is_long suffix) e
  where
    go : (a b : Bool)
        → pick a (Some (plain_length piece suffix)) None ≡ None
        → ◌≡◌ {A = Rests} (record { plain = pick a (Some (plain_length piece suffix)) None; shared = pick (a && b) (Some (shared_length piece suffix)) None }) no_rests
    go true b e = let z : ◌≡◌ {A = ℕ} 0 1 = cc in absurd (omega arith)
    go false b e = refl

either : {A : Type 0} (b : Bool) (x : A) → pick b x x ≡ x
either true x = refl
either false x = refl

module _ (ask : Ask) (piece suffix : List ℕ) where
  pub open_none : (r : Rests) → r ≡ rests_of piece suffix → r.plain ≡ None → r ≡ open_rests ask piece suffix
  unfolding open_rests
  open_none r e n =
      let z : rests_of piece suffix ≡ no_rests = none-counted piece suffix (ap (λ (x : Rests). x.plain) (sym e) ∙ n) in
      e ∙ z ∙ sym (either (is_kept ask piece suffix) no_rests) ∙ ap (λ (x : Rests). pick (is_kept ask piece suffix) no_rests x) (sym z)

  pub open_kept : is_kept ask piece suffix ≡ true → no_rests ≡ open_rests ask piece suffix
  unfolding open_rests
  open_kept k = rw k

  pub open_free : (r : Rests) → is_kept ask piece suffix ≡ false → r ≡ rests_of piece suffix → r ≡ open_rests ask piece suffix
  unfolding open_rests
  open_free r k e = rw k e

  -- the lengths that the code gives say the remainders
  pub open_say : fronts piece (open_rests ask piece suffix) ≡ left_of ask piece suffix
  unfolding open_rests left_of
  open_say = go (is_kept ask piece suffix)
    where
      go : (b : Bool) → fronts piece (pick b no_rests (rests_of piece suffix)) ≡ pick b [] (remainders piece suffix)
      go true = refl
      go false = rests_say piece suffix

  -- and lie inside the piece
  pub open_inside : Inside piece (open_rests ask piece suffix)
  unfolding open_rests
  open_inside = go (is_kept ask piece suffix)
    where
      go : (b : Bool) → Inside piece (pick b no_rests (rests_of piece suffix))
      go true = record { plain_in = tt; shared_in = tt }
      go false = rests_inside piece suffix

  -- where there is no plain one, there is no shared one
  pub open_alone : (open_rests ask piece suffix).plain ≡ None → (open_rests ask piece suffix).shared ≡ None
  unfolding open_rests
  open_alone = go (is_kept ask piece suffix)
    where
      go : (b : Bool) → (pick b no_rests (rests_of piece suffix)).plain ≡ None → (pick b no_rests (rests_of piece suffix)).shared ≡ None
      go true e = refl
      go false e = shared_with_plain piece suffix e

-- whether the rule keeps the piece, by the letters of its own line
pub kept : (s piece suffix : List ℕ) (l : Letters) (b : Bool) → l ≡ letters_for s (piece ++ []) → b ≡ keeps_pronoun l.pronoun l.spelled suffix
    → b ≡ is_kept (reply s) piece suffix
unfolding is_kept
kept s piece suffix l b e k = k ∙ ap (λ (x : Letters). keeps_pronoun x.pronoun x.spelled suffix) (own_letters s piece l e)

-- The first one taken, by the lengths that the code has of them.

module _ (ask : Ask) (least : ℕ) (piece suffix : List ℕ) (r : Rests) (e : r ≡ open_rests ask piece suffix) where
  said : first_taken ask least (fronts piece r) ≡ first_taken ask least (left_of ask piece suffix)
  said = ap (first_taken ask least) (ap (fronts piece) e ∙ open_say ask piece suffix)

  pub first-inside : Inside piece r
  first-inside = rw e (open_inside ask piece suffix)

  pub plain-within : (n : ℕ) → r.plain ≡ Some n → n ≤ length piece
  plain-within n p = rw p at first-inside.plain_in

  pub shared-within : (n : ℕ) → r.shared ≡ Some n → n ≤ length piece
  shared-within n p = rw p at first-inside.shared_in

  pub first-none : r.plain ≡ None → [] ≡ first_taken ask least (left_of ask piece suffix)
  first-none n =
      let m : r.shared ≡ None = rw e (open_alone ask piece suffix (ap (λ (x : Rests). x.plain) (sym e) ∙ n)) in
      rw (n, m) at said

  module _ (n : ℕ) (p : r.plain ≡ Some n) where
    pub first_plain : is_taken ask least (take n piece) ≡ true → take n piece ∷ [] ≡ first_taken ask least (left_of ask piece suffix)
    first_plain t = rw (p, t) at said

    module _ (t : is_taken ask least (take n piece) ≡ false) where
      pub first_one : r.shared ≡ None → [] ≡ first_taken ask least (left_of ask piece suffix)
      first_one q = rw (p, q, t) at said

      module _ (m : ℕ) (q : r.shared ≡ Some m) where
        pub first-shared : is_taken ask least (take m piece) ≡ true → take m piece ∷ [] ≡ first_taken ask least (left_of ask piece suffix)
        first-shared u = rw (p, q, t, u) at said

        pub first_neither : is_taken ask least (take m piece) ≡ false → [] ≡ first_taken ask least (left_of ask piece suffix)
        first_neither u = rw (p, q, t, u) at said
