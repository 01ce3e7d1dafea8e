-- The places of the roots offered say the texts that are meant: the remainders, and what stands behind a prefix. Assumes nothing.
use mathlib.Core.Path.{◌≡◌}
use mathlib.Core.List.{List, [], ◌∷◌}
use Prim.Native.Nat.{ℕ, ◌≤◌}
use native.Mathlib.Omega.{arith}
use lib.ListN.{length, drop}
use lib.Seq.{take_all}
use Rattle.sheet.specs.Replies.{Ask}
use Rattle.decomposition.specs.Strips.{label_row, left_of}
use Rattle.decomposition.specs.Parts.{parts_of, root_text}
use Rattle.decomposition.specs.declared.fronts.Front.{Front}
use Rattle.decomposition.proofs.Meant.{AllFronts, left-fronts, root_meant}
use Rattle.roots.specs.Candidates.{bare}

-- each of the texts is the root of its parts
abbrev pub AllMeant : List ℕ → Front → List ℕ → List (List ℕ) → Type 0
AllMeant w f labels [] = Unit {0}
AllMeant w f labels (r ∷ rs) = (root_text w (parts_of f r labels) ≡ r) × AllMeant w f labels rs

fronts_meant : (w : List ℕ) (f : Front) (labels : List ℕ) (rs : List (List ℕ)) → f.from ≤ length w → AllFronts (drop f.from w) rs → AllMeant w f labels rs
fronts_meant w f labels [] h a = tt
fronts_meant w f labels (r ∷ rs) h a = (root_meant w f r labels h a.0, fronts_meant w f labels rs h a.1)

module _ (w : List ℕ) (f : Front) (h : f.from ≤ length w) where
  -- under a suffix row
  pub suffix_meant : (ask : Ask) (k : ℕ) (suffix : List ℕ) → AllMeant w f (label_row k ∷ []) (left_of ask (drop f.from w) suffix)
  suffix_meant ask k suffix = fronts_meant w f (label_row k ∷ []) (left_of ask (drop f.from w) suffix) h (left-fronts ask (drop f.from w) suffix)

  -- with no suffix
  pub bare_meant : root_text w (bare w f) ≡ drop f.from w
  bare_meant = root_meant w f (drop f.from w) [] h (omega arith, take_all (length (drop f.from w)) (drop f.from w) (omega arith))
