-- What a strip leaves, as the code says it, and what a row and a piece add. The proof of the walk cites these. Assumes nothing.
use Prim.Native.Nat.{ℕ, zero, suc, ◌+◌, ◌-◌, ◌<◌, ◌≤◌}
use native.Mathlib.Omega.{arith}
use native.Mathlib.Numerals.{add-one}
use mathlib.Core.Path.{◌≡◌, refl, sym, ap, ◌∙◌}
use mathlib.Core.Bool.{Bool, true, false, ◌&&◌}
use mathlib.Core.List.{List, [], ◌∷◌, ◌++◌, append-nil}
use lib.ListN.{length, take, get_or}
use lib.Seq.{take-take}
use lib.Dec.{ltb}
use Rattle.std.specs.Prelude.{Some, None}
use Rattle.runs.specs.Runs.{pick, ends_in}
use Rattle.tables.specs.Tables.{affixes}
use Rattle.strips.specs.Suffix.{sheds, is_long, plain, shared, rests_of, without, first_character, plain_length, shared_length}
use Rattle.strips.specs.declared.suffix.Rests.{Rests}
use Rattle.strips.proofs.Remainders.{shared-front}
use Rattle.sheet.specs.Replies.{Ask}
use Rattle.progressive.specs.Progressive.{is_progressive}
use Rattle.ranking.specs.Lists.{Rows, plus_all}
use Rattle.ranking.specs.declared.Reading.{Reading}
use Rattle.paths.specs.declared.Chain.{Chain}
use Rattle.paths.specs.Chains.{rows_after}
use Rattle.paths.specs.Readings.{segment_of}
use Rattle.paths.specs.Walk.{pushed_of, stem_walk, row_walk, rows_walk, piece_walk}
use Rattle.analysis.proofs.Turns.{plus-append}

-- the two remainders of a piece, each by whether there is one
module _ (p t : List ℕ) where
  pub record Lefts (r : Rests) : Type 0 where
    pub none : r.plain ≡ None → (plain p t ≡ []) × (shared p t ≡ [])
    pub plain_left : (n : ℕ) → r.plain ≡ Some n → plain p t ≡ take n p ∷ []
    pub no_shared_left : r.shared ≡ None → shared p t ≡ []
    pub shared_left : (n : ℕ) → r.shared ≡ Some n → shared p t ≡ take n p ∷ []

  one : (n m : ℕ) → Some n ≡ Some m → take n p ∷ [] ≡ take m p ∷ []
  one n m e = let q : n ≡ m = cc in ap (λ (k : ℕ). take k p ∷ []) q

  is_none : (n : ℕ) {A : Type 0} → Some n ≡ None → A
  is_none n e = absurd (let z : ◌≡◌ {A = ℕ} 0 1 = cc in omega arith)

  is_some : (n : ℕ) {A : Type 0} → None ≡ Some n → A
  is_some n e = absurd (let z : ◌≡◌ {A = ℕ} 0 1 = cc in omega arith)

  pub lefts : Lefts (rests_of p t)
  unfolding rests_of plain shared
  lefts = let l = by (sheds p t) (is_long t) refl in record { none = l.0; plain_left = l.1; no_shared_left = l.2; shared_left = l.3 }
    where
      by : (a b : Bool) → sheds p t ≡ a →
          let r : Rests = record { plain = pick a (Some (plain_length p t)) None; shared = pick (a && b) (Some (shared_length p t)) None } in
          let x = pick a (without p t ∷ []) [] in
          let y = pick (a && b) ((without p t ++ first_character t) ∷ []) [] in
          (r.plain ≡ None → (x ≡ []) × (y ≡ [])) × ((n : ℕ) → r.plain ≡ Some n → x ≡ take n p ∷ [])
          × (r.shared ≡ None → y ≡ []) × ((n : ℕ) → r.shared ≡ Some n → y ≡ take n p ∷ [])
      by true true e = (
        (λ q. is_none _ q),
        (λ n q. one _ n q),
        (λ q. is_none _ q),
        (λ n q. ap (λ (l : List ℕ). l ∷ []) (shared-front p t e) ∙ one _ n q),
      )
      by true false e = ((λ q. is_none _ q), (λ n q. one _ n q), (λ q. refl), (λ n q. is_some n q))
      by false b e = ((λ q. (refl, refl)), (λ n q. is_some n q), (λ q. refl), (λ n q. is_some n q))

-- a front part of a front part of the word
pub shorter : (w : List ℕ) (n e : ℕ) → n ≤ e → take n (take e w) ∷ [] ≡ take n w ∷ []
shorter w n e h = ap (λ (l : List ℕ). l ∷ []) (take-take n e w h)

-- what one row adds
module _ (w piece : List ℕ) (deeper : Chain → ℕ → List ℕ → List Reading) (ask : Ask) (c : Chain) (k : ℕ) (a : Rows) where
  pub row-none : plain piece (get_or affixes k []) ≡ [] → shared piece (get_or affixes k []) ≡ [] → a ≡ plus_all w a (row_walk deeper ask c piece k)
  unfolding plus_all
  row-none p q = rw (p, q)

  module _ (next : Chain) (rows : ℕ) (pn : next ≡ pushed_of c (segment_of ask (record { row = k; is_shared = false }))) (pr : rows ≡ rows_after k) (left : List ℕ) (f : Rows)
      (pl : plain piece (get_or affixes k []) ≡ left ∷ []) (pf : f ≡ plus_all w a (deeper next rows left)) where
    pub row_plain : shared piece (get_or affixes k []) ≡ [] → f ≡ plus_all w a (row_walk deeper ask c piece k)
    row_plain q = rw (pl, q, append-nil, sym pn, sym pr) pf

    pub row-both : (last : Chain) → last ≡ pushed_of c (segment_of ask (record { row = k; is_shared = true })) → (other : List ℕ) (g : Rows)
        → shared piece (get_or affixes k []) ≡ other ∷ [] → g ≡ plus_all w f (deeper last rows other) → g ≡ plus_all w a (row_walk deeper ask c piece k)
    row-both last pm other g q e =
        rw (pl, q, sym pn, sym pm, sym pr) (e ∙ ap (λ (r : Rows). plus_all w r (deeper last rows other)) pf ∙ sym (plus-append w a (deeper next rows left) (deeper last rows other)))

-- a piece that does not end in the text has no remainder
no_shed : (p t : List ℕ) → ends_in t p ≡ false → sheds p t ≡ false
unfolding sheds
no_shed p t e = by (ltb (length t) (length p))
  where
    by : (b : Bool) → (b && ends_in t p) ≡ false
    by true = e
    by false = refl

pub no_plain : (p t : List ℕ) → ends_in t p ≡ false → plain p t ≡ []
unfolding plain
no_plain p t e = rw (no_shed p t e)

pub no_shared : (p t : List ℕ) → ends_in t p ≡ false → shared p t ≡ []
unfolding shared
no_shared p t e = rw (no_shed p t e)

-- a turn of the loop over rows
module _ (w piece : List ℕ) (deeper : Chain → ℕ → List ℕ → List Reading) (ask : Ask) (c : Chain) (k n : ℕ) (a : Rows) where
  pub row_turn : (g : Rows) → k < n → g ≡ plus_all w a (row_walk deeper ask c piece k)
      → plus_all w a (rows_walk deeper ask c piece k (n - k)) ≡ plus_all w g (rows_walk deeper ask c piece (k + 1) (n - (k + 1)))
  unfolding rows_walk
  row_turn g h e =
      let q : n - k ≡ suc (n - (k + 1)) = omega arith in
      rw (q, add-one k) (plus-append w a (row_walk deeper ask c piece k) (rows_walk deeper ask c piece (suc k) (n - suc k)) ∙ ap (λ (r : Rows). plus_all w r (rows_walk deeper ask c piece (suc k) (n - suc k))) (sym e))

  -- a piece that does not end in the text is left as it is
  pub row_pass : k < n → ends_in (get_or affixes k []) piece ≡ false
      → plus_all w a (rows_walk deeper ask c piece k (n - k)) ≡ plus_all w a (rows_walk deeper ask c piece (k + 1) (n - (k + 1)))
  row_pass h e = row_turn a h (row-none w piece deeper ask c k a (no_plain piece (get_or affixes k []) e) (no_shared piece (get_or affixes k []) e))

  pub row-end : n ≤ k → plus_all w a (rows_walk deeper ask c piece k (n - k)) ≡ a
  unfolding rows_walk plus_all
  row-end h = let q : n - k ≡ 0 = omega arith in rw q

-- what a piece adds: its stem's readings alone, or with those of its rows
module _ (w piece : List ℕ) (ask : Ask) (surface : ℕ) (c : Chain) (rows : ℕ) (a f : Rows) (e : f ≡ plus_all w a (stem_walk ask surface c piece)) where
  pub piece-progressive : (d : ℕ) → is_progressive ask piece ≡ true → f ≡ plus_all w a (piece_walk d ask surface c rows piece)
  unfolding piece_walk
  piece-progressive zero p = e
  piece-progressive (suc d) p = rw (p, append-nil) e

  pub piece-last : (d : ℕ) → d ≡ 0 → f ≡ plus_all w a (piece_walk d ask surface c rows piece)
  unfolding piece_walk
  piece-last d q = rw q e

  pub piece-rows : (d : ℕ) → is_progressive ask piece ≡ false
      → plus_all w f (rows_walk (piece_walk d ask surface) ask c piece 0 rows) ≡ plus_all w a (piece_walk (suc d) ask surface c rows piece)
  unfolding piece_walk
  piece-rows d p =
      let deeper = rows_walk (piece_walk d ask surface) ask c piece 0 rows in
      rw p (ap (λ (r : Rows). plus_all w r deeper) e ∙ sym (plus-append w a (stem_walk ask surface c piece) deeper))
