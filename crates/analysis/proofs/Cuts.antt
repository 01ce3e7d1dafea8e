-- Pieces of the word by their places, and the record of a root by its places. The proofs of the walk cite these. Assumes nothing.
use Rattle.std.specs.Prelude.{None, Option, Some}
use Prim.Native.Nat.{ℕ, zero, suc, ◌+◌, ◌-◌, ◌≤◌}
use native.Mathlib.Omega.{arith}
use native.Mathlib.Nat.{sub-zero, zero-sub, suc-sub-suc}
use mathlib.Core.Path.{◌≡◌, sym, ap, ap₂, ◌∙◌}
use mathlib.Core.List.{List, [], ◌∷◌}
use lib.ListN.{length, take, drop, length-drop}
use lib.Seq.{length-take-le, drop-drop, take-nil}
use Rattle.runs.specs.Runs.{pick}
use Rattle.strips.specs.Prefix.{prefix_remainder, rest_of, behind}
use Rattle.strips.proofs.Remainders.{rest-says}
use Rattle.paths.specs.Chains.{form_of}
use Rattle.sheet.specs.Replies.{Ask}
use Rattle.paths.specs.declared.Chain.{Chain}
use Rattle.paths.specs.Support.{is_supported}
use Rattle.paths.specs.Readings.{built, prefixes_of}
use Rattle.paths.specs.Walk.{root_walk}
use Rattle.analysis.specs.Places.{between, root_found}

drop-take : (n m : ℕ) (l : List ℕ) → drop n (take m l) ≡ take (m - n) (drop n l)
drop-take zero m l = rw (sub-zero m)
drop-take (suc n) zero l = rw (zero-sub (suc n))
drop-take (suc n) (suc m) [] = sym (take-nil (suc m - suc n))
drop-take (suc n) (suc m) (x ∷ l) = drop-take n m l ∙ rw (suc-sub-suc m n)

module _ (w : List ℕ) (b e : ℕ) where
  -- what is left of a piece from its n-th byte on
  pub cut-more : (n : ℕ) → drop n (between w b e) ≡ between w (b + n) e
  cut-more n =
      let q : e - b - n ≡ e - (b + n) = omega arith in
      drop-take n (e - b) (drop b w) ∙ rw (drop-drop n b w, q)

  pub between-length : b ≤ e → e ≤ length w → length (between w b e) ≡ e - b
  between-length h k = let n : e - b ≤ length (drop b w) = rw (length-drop b w) (omega arith) in length-take-le (e - b) (drop b w) n

  -- what a form leaves, as the code says it
  pub none_left : (form : List ℕ) → None ≡ rest_of (between w b e) form → prefix_remainder (between w b e) form ≡ []
  none_left form q = sym (rest-says (between w b e) form) ∙ ap (behind (between w b e)) (sym q)

  pub one_left : (form : List ℕ) (n : ℕ) → Some n ≡ rest_of (between w b e) form → prefix_remainder (between w b e) form ≡ between w (b + n) e ∷ []
  one_left form n q = sym (rest-says (between w b e) form) ∙ ap (behind (between w b e)) (sym q) ∙ ap (λ (l : List ℕ). l ∷ []) (cut-more n)

  -- the reading of a root, by texts and by places
  pub root_at : (ask : Ask) (surface : ℕ) (c : Chain) (rows : List ℕ) → b ≤ e → e ≤ length w
      → root_found ask surface c w e b (prefixes_of rows) ≡ root_walk ask surface c (take e w) rows (between w b e)
  unfolding root_walk
  root_at ask surface c rows h k =
      let n : length (take e w) ≡ e = length-take-le e w k in
      let m : length (take e w) - length (between w b e) ≡ b = rw (n, between-length h k) (omega arith) in
      ap₂ (λ (stem at : ℕ). pick (is_supported ask (between w b e)) (built ask surface stem at (between w b e) (prefixes_of rows) c ∷ []) []) (sym n) (sym m)

-- the same of a front part of the word
module _ (w : List ℕ) (e : ℕ) where
  pub front-none : (form : List ℕ) → None ≡ rest_of (take e w) form → prefix_remainder (take e w) form ≡ []
  front-none form q = sym (rest-says (take e w) form) ∙ ap (behind (take e w)) (sym q)

  pub front-left : (form : List ℕ) (n : ℕ) → Some n ≡ rest_of (take e w) form → prefix_remainder (take e w) form ≡ between w n e ∷ []
  front-left form n q = sym (rest-says (take e w) form) ∙ ap (behind (take e w)) (sym q) ∙ ap (λ (l : List ℕ). l ∷ []) (drop-take n e w)

  -- the whole of a front part, by places
  pub whole-front : between w 0 e ≡ take e w
  whole-front = rw (sub-zero e)

-- what a prefix row leaves of a piece, asked by its form as the table has it
pub asked : (k : ℕ) (piece found : List ℕ) (r : Option ℕ) → r ≡ rest_of piece found → found ≡ form_of k → r ≡ rest_of piece (form_of k)
asked k piece found r e f = e ∙ ap (rest_of piece) f
